-- What an attempt to raise a word did, and what its commit makes of a memory.
use Rattle.std.proofs.Common.{◌≡◌, ◌≢◌, ℕ, ◌+◌, ◌-◌, ◌<◌, ◌++◌, List, [], ◌∷◌, Some, length, set, get_or, refl, sym, ◌∙◌, ap, subst, arith}
use Rattle.std.specs.Prelude.{slice_get, Contains}
use Rattle.std.proofs.lemmas.Bool.{ne_eqb}
use Rattle.std.proofs.lemmas.List.{length-set, get_or-set_same, get_or-set_other}
use Rattle.std.proofs.lemmas.Option.{get_or_from_slice_get, slice_get_within}
use Rattle.tx_model.specs.declared.word.Word.{Word}
use Rattle.tx_model.specs.declared.view.Attempt.{Attempt}
use Rattle.tx_model.specs.declared.view.Owned.{Owned}
use Rattle.tx_model.specs.declared.view.PassView.{PassView}
use Rattle.tx_model.specs.Words.{index_of, put}
use Rattle.tx_model.specs.Memory.{after, Agrees}
use Rattle.tx_model.specs.History.{after_commit}
use Rattle.tx_model.specs.Attempt.{starting_at, commit_of, Fits}
use Rattle.tx_model.specs.Calls.{GoesOn, Read, with_write}
use Rattle.tx_uses.specs.Countdown.{CountsDown, count_of}
use Rattle.tx_uses.specs.Raise.{at, Raises}
use Rattle.tx_uses.specs.Raised.{IsRaised}
use Rattle.tx_model.proofs.lemmas.Calls.{goes_on_then}
use Rattle.tx_model.proofs.lemmas.Memories.{after_commit_none, reads_unwritten}

-- ---- the words of an attempt
put_first : (addr value : ℕ) → put [] addr value ≡ at addr value ∷ []
unfolding index_of
put_first addr value = refl

put_second : (addr value next new : ℕ) → addr ≢ next → put (at addr value ∷ []) next new ≡ at addr value ∷ at next new ∷ []
unfolding index_of
put_second addr value next new apart = rw (ne_eqb addr next apart) refl

-- ---- the two reads of an attempt that began
module _ {opening : List ℕ} {old mid new : PassView} {begun between now : Attempt} {word count value : ℕ}
    (fresh : begun ≡ starting_at begun.start) (one : Read opening old mid begun between 0 count) (two : Read opening mid new between now word value) where
  pub both_go_on : GoesOn old new begun now
  both_go_on = goes_on_then one.goes_on two.goes_on

  no_writes_between : between.writes ≡ []
  no_writes_between = one.writes ∙ ap (λ (attempt : Attempt). attempt.writes) fresh

  pub both_writes : now.writes ≡ []
  both_writes = two.writes ∙ no_writes_between

  pub both_reads : now.reads ≡ at 0 count ∷ at word value ∷ []
  both_reads =
      two.reads ∙ reads_unwritten between word value no_writes_between
      ∙ ap (λ reads. reads ++ at word value ∷ [])
      (one.reads ∙ reads_unwritten begun 0 count (ap (λ (attempt : Attempt). attempt.writes) fresh)
      ∙ ap (λ (attempt : Attempt). attempt.reads ++ at 0 count ∷ []) fresh)

  pub both_sealed : now.sealed ≡ []
  both_sealed = two.sealed ∙ one.sealed ∙ ap (λ (attempt : Attempt). attempt.sealed) fresh

  pub both_published : now.published ≡ []
  both_published = two.published ∙ one.published ∙ ap (λ (attempt : Attempt). attempt.published) fresh

  -- after them the two writes
  pub raises : {third fourth : Attempt} → 0 < word → count ≢ 0 → third ≡ with_write now 0 (count - 1) → fourth ≡ with_write third word (value + 1)
      → Raises word fourth
  raises {third} {fourth} other some third_is fourth_is =
      record {
        count = count;
        value = value;
        some_left = omega arith;
        reads = ap (λ (attempt : Attempt). attempt.reads) fourth_is ∙ ap (λ (attempt : Attempt). attempt.reads) third_is ∙ both_reads;
        writes =
            ap (λ (attempt : Attempt). attempt.writes) fourth_is
            ∙ ap (λ (attempt : Attempt). put attempt.writes word (value + 1)) third_is
            ∙ ap (λ (writes : List Word). put (put writes 0 (count - 1)) word (value + 1)) both_writes
            ∙ ap (λ (writes : List Word). put writes word (value + 1)) (put_first 0 (count - 1))
            ∙ put_second 0 (count - 1) word (value + 1) (omega arith);
        no_region = (
          ap (λ (attempt : Attempt). attempt.sealed) fourth_is ∙ ap (λ (attempt : Attempt). attempt.sealed) third_is
              ∙ both_sealed,
          ap (λ (attempt : Attempt). attempt.published) fourth_is ∙ ap (λ (attempt : Attempt). attempt.published) third_is
              ∙ both_published,
        );
      }

-- both words are among the reads
pub reads_count : (reads : List Word) (word count value : ℕ) → reads ≡ at 0 count ∷ at word value ∷ [] → Contains reads (at 0 count)
reads_count reads word count value e = (0, omega (arith, ap length e), ap (λ words. get_or words 0 (at 0 count)) e)

pub reads_value : (reads : List Word) (word count value : ℕ) → reads ≡ at 0 count ∷ at word value ∷ [] → Contains reads (at word value)
reads_value reads word count value e = (1, omega (arith, ap length e), ap (λ words. get_or words 1 (at word value)) e)

-- ---- the commit
after_raise : (memory : List ℕ) (word : ℕ) (attempt : Attempt) (owned : List Owned) → (r : Raises word attempt)
    → after_commit memory (commit_of attempt owned) ≡ set (set memory 0 (r.count - 1)) word (r.value + 1)
after_raise memory word attempt owned r =
    after_commit_none memory attempt owned r.no_region.1 ∙ ap (after memory) r.writes

set_raises : (memory : List ℕ) (word count value : ℕ) → 0 < word → 0 < count → slice_get memory 0 ≡ Some count → slice_get memory word ≡ Some value
    → IsRaised word memory (set (set memory 0 (count - 1)) word (value + 1))
set_raises memory word count value other some first there =
    let lowered = set memory 0 (count - 1) in
    let apart : 0 ≢ word = omega arith in
    record {
      size = length-set lowered word (value + 1) ∙ length-set memory 0 (count - 1);
      greater =
          get_or-set_same lowered word (value + 1) 0 (omega (arith, length-set memory 0 (count - 1), slice_get_within memory word value there))
          ∙ ap (λ n. n + 1) (sym (get_or_from_slice_get memory word value 0 there));
      lower =
          let now = get_or-set_other lowered word 0 (value + 1) 0 apart ∙ get_or-set_same memory 0 (count - 1) 0 (slice_get_within memory 0 count first) in
          omega (arith, now, get_or_from_slice_get memory 0 count 0 first);
      others = λ next no_count no_word. get_or-set_other lowered word next (value + 1) 0 no_word ∙ get_or-set_other memory 0 next (count - 1) 0 no_count;
    }

-- it raises the word of each memory that the attempt may have read from
pub commit_raises : (memory : List ℕ) (word : ℕ) (attempt : Attempt) (owned : List Owned) → 0 < word → Raises word attempt → Agrees attempt.reads memory
    → IsRaised word memory (after_commit memory (commit_of attempt owned))
commit_raises memory word attempt owned other r agrees =
    subst (IsRaised word memory) (sym (after_raise memory word attempt owned r))
    (set_raises memory word r.count r.value other r.some_left (read 0 (at 0 0) (omega arith)) (read 1 (at 0 0) (omega arith)))
  where
    read : Agrees (at 0 r.count ∷ at word r.value ∷ []) memory
    read = subst (λ reads. Agrees reads memory) r.reads agrees

-- and leads a good memory to a good one, with one commit less to come
pub raise_may_commit : (opening memory : List ℕ) (word : ℕ) (attempt : Attempt) (owned : List Owned) → 0 < word → Raises word attempt
    → CountsDown opening memory → Fits memory attempt owned
    → CountsDown opening (after_commit memory (commit_of attempt owned)) × (count_of (after_commit memory (commit_of attempt owned)) < count_of memory)
raise_may_commit opening memory word attempt owned other r good fits =
    let raised = commit_raises memory word attempt owned other r fits.reads in
    (record { size = raised.size ∙ good.size; count = omega (arith, raised.lower, good.count) }, omega (arith, raised.lower))
