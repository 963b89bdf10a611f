-- What the words ask, by the texts of the queries.
use Rattle.std.proofs.Common.{◌≡◌, ◌⊎◌, ◌||◌, ◌==◌, ◌/◌, ℕ, ◌≤◌, Bool, true, false, List, Option, Some, None, Err, refl, sym, subst, eqb-true, inl, inr}
use Rattle.ring_sig.specs.Signature.{IsWordCount}
use Rattle.mail_line.specs.CommandLine.{AreWithinBounds, is_bit_count}
use Rattle.mail_query.specs.declared.query.Query.{Query}
use Rattle.mail_search.specs.CommandLine.{Asking, asking_of, first_refused, AllRead}
use Rattle.mail_search.specs.Outcome.{AsksThese, CanIndex, IsAsked, AreRead}
use Rattle.mail_search.specs.declared.status.Status.{Status}
use Rattle.mail_search.specs.declared.status.Status.TheVariants.{Done, ReadFault, Usage, NotMbox, TooLarge, BadQuery, WriteFault, Memory, TooManyMessages, TooManyPostings, BadScript}

-- a text is refused
pub texts_refused : (words : List (List ℕ)) (asking : Asking) (status : Status)
    → asking_of words ≡ Some asking → AreRead asking.texts (Err status) → IsAsked words (Err status)
texts_refused words asking (BadQuery number error) line refused = (asking, line, refused)
texts_refused words asking Memory line refused = tt
texts_refused words asking Done line refused = absurd refused
texts_refused words asking ReadFault line refused = absurd refused
texts_refused words asking Usage line refused = absurd refused
texts_refused words asking NotMbox line refused = absurd refused
texts_refused words asking TooLarge line refused = absurd refused
texts_refused words asking WriteFault line refused = absurd refused
texts_refused words asking TooManyMessages line refused = absurd refused
texts_refused words asking TooManyPostings line refused = absurd refused
texts_refused words asking (BadScript number) line refused = absurd refused

-- all are read
pub texts_read : (words : List (List ℕ)) (report : Bool) (generate : Option ℕ) (texts : List (List ℕ)) (queries : List Query)
    → asking_of words ≡ Some (record { report = report; generate = generate; texts = texts })
    → ((count : ℕ) → generate ≡ Some count → count ≤ 100000)
    → first_refused 1 texts ≡ None → AllRead texts queries → AsksThese words generate report queries
texts_read words report generate texts queries line few read all =
    record { asks = record { report = report; texts = texts; line = line; read = read }; all = all; few = few; reports = refl }

-- one of two tests holds
either : (a b : Bool) → (a || b) ≡ true → (a ≡ true) ⊎ (b ≡ true)
either true b holds = inl refl
either false b holds = inr holds

at_count : (bits count : ℕ) → (bits == count) ≡ true → IsWordCount (count / 64) → IsWordCount (bits / 64)
at_count bits count same holds = subst (λ (n : ℕ). IsWordCount (n / 64)) (sym (eqb-true bits count same)) holds

-- a signature of one of the five numbers of bits has one of the five numbers of words
one_of_five : (bits : ℕ) → is_bit_count bits ≡ true → IsWordCount (bits / 64)
one_of_five bits is =
    elim (either (bits == 64) _ is) [
      | inl one ↦ at_count bits 64 one refl
      | inr others ↦ elim (either (bits == 128) _ others) [
        | inl two ↦ at_count bits 128 two refl
        | inr more ↦ elim (either (bits == 256) _ more) [
          | inl four ↦ at_count bits 256 four refl
          | inr last ↦ elim (either (bits == 512) (bits == 1024) last) [
            | inl eight ↦ at_count bits 512 eight refl
            | inr sixteen ↦ at_count bits 1024 sixteen refl
          ]
        ]
      ]
    ]

pub can_index : (workers ring bits : ℕ) (generate : Option ℕ) (texts : List (List ℕ)) → AreWithinBounds workers ring bits generate texts
    → CanIndex workers ring bits
can_index workers ring bits generate texts bounds = record {
  can_work = (bounds.some_workers, bounds.few_workers);
  has_entries = (bounds.some_entries, bounds.few_entries);
  has_words = one_of_five bits bounds.bit_count;
}
