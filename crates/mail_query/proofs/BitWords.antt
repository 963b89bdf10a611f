-- What words of bits say after one of them changed, or all.
use Rattle.std.proofs.Common.{◌≡◌, ◌≢◌, ℕ, ◌+◌, ◌*◌, ◌/◌, ◌%◌, ◌^◌, ◌<◌, ◌≤◌, ◌==◌, ◌&&◌, ◌||◌, Bool, true, false, not, min, max, List, length, set, get_or, refl, sym, ap, ◌∙◌, subst, arith, bit_and, bit_or, bit_xor, ◌⊎◌, inl, inr, eqb-true, eq-eqb, filter, cond, [], ◌∷◌, ◌++◌}
use Rattle.std.specs.Int.{w64, bit_at}
use Rattle.std.proofs.lemmas.Bool.{cases_lt, cases_eq, ne_eqb, false≢true}
use Rattle.std.proofs.lemmas.Bool.Decides.{nat_tests}
use Rattle.std.proofs.lemmas.List.{get_or-set_same, get_or-set_other, length-set, map-id}
use Rattle.std.proofs.lemmas.List.FromFn.{filter_of_map_range_with_len_more}
use Rattle.std.proofs.lemmas.Nat.Bits.{bit_at-lt, bit_at_and, bit_at_or, bit_at_xor, bit_at_ones, bit_at_set_same, bit_at_set_other}
use Rattle.std.specs.List.{range_with_len}
use Rattle.mail_query.specs.Bits.{has_bit, GainsBit}
use Rattle.mail_query.proofs.Tables.{or_false}

abbrev pub one : ℕ → Bool
one bit = bit == 1

or_true : (b : Bool) → (b || true) ≡ true
or_true true = refl
or_true false = refl

-- ---- bits of two words

both_ones : (x y : ℕ) → x < 2 → y < 2 → one (min x y) ≡ (one x && one y)
both_ones x y h k = grind (arith, nat_tests)

either_one : (x y : ℕ) → x < 2 → y < 2 → one (max x y) ≡ (one x || one y)
either_one x y h k = grind (arith, nat_tests)

other_one : (x : ℕ) → x < 2 → one ((x + 1) % 2) ≡ not (one x)
other_one x h = grind (arith, nat_tests)

pub and_bit : (a b i : ℕ) → one (bit_at (bit_and a b) i) ≡ (one (bit_at a i) && one (bit_at b i))
and_bit a b i = ap one (bit_at_and a b i) ∙ both_ones (bit_at a i) (bit_at b i) (bit_at-lt a i) (bit_at-lt b i)

pub or_bit : (a b i : ℕ) → one (bit_at (bit_or a b) i) ≡ (one (bit_at a i) || one (bit_at b i))
or_bit a b i = ap one (bit_at_or a b i) ∙ either_one (bit_at a i) (bit_at b i) (bit_at-lt a i) (bit_at-lt b i)

pub not_bit : (a i : ℕ) → i < 64 → one (bit_at (bit_xor a 18446744073709551615) i) ≡ not (one (bit_at a i))
not_bit a i within =
    ap one (bit_at_xor a 18446744073709551615 i ∙ ap (λ b. (bit_at a i + b) % 2) (bit_at_ones 64 i within)) ∙ other_one (bit_at a i) (bit_at-lt a i)

-- ---- one word after the other

-- the words before an index are made of those of two lists, and the others are still those of the first
pub record Worked (make : ℕ → ℕ → ℕ) (old others now : List ℕ) (index : ℕ) : Type 0 where
  pub size : length now ≡ length old
  pub done : (k : ℕ) → k < index → get_or now k 0 ≡ make (get_or old k 0) (get_or others k 0)
  pub rest : (k : ℕ) → index ≤ k → get_or now k 0 ≡ get_or old k 0

pub worked_none : (make : ℕ → ℕ → ℕ) (old others : List ℕ) → Worked make old others old 0
worked_none make old others = record { size = refl; done = λ k below. absurd (omega arith); rest = λ k above. refl }

pub worked_more : (make : ℕ → ℕ → ℕ) (old others now : List ℕ) (index word : ℕ) → index < length now → word ≡ make (get_or now index 0) (get_or others index 0)
    → Worked make old others now index → Worked make old others (set now index word) (index + 1)
worked_more make old others now index word within is w = record {
  size = length-set now index word ∙ w.size;
  done = λ k below. made k below (cases_lt k index);
  rest = λ k above. get_or-set_other now index k word 0 (λ e. absurd (omega (arith, e))) ∙ w.rest k (omega arith);
}
  where
    made : (k : ℕ) → k < index + 1 → (k < index) ⊎ (index ≤ k) → get_or (set now index word) k 0 ≡ make (get_or old k 0) (get_or others k 0)
    made k below (inl before) = get_or-set_other now index k word 0 (λ e. absurd (omega (arith, e))) ∙ w.done k before
    made k below (inr here) =
        let at : k ≡ index = omega arith in
        subst (λ j. get_or (set now index word) j 0 ≡ make (get_or old j 0) (get_or others j 0)) (sym at)
        (get_or-set_same now index word 0 within ∙ is ∙ ap (λ x. make x (get_or others index 0)) (w.rest index (omega arith)))

-- all words are made, so the bits are
pub worked_all : (make : ℕ → ℕ → ℕ) (test : Bool → Bool → Bool) (old others now : List ℕ) (index : ℕ) → length old ≤ index → Worked make old others now index
    → ((k i : ℕ) → k < length old → i < 64
    → one (bit_at (make (get_or old k 0) (get_or others k 0)) i) ≡ test (one (bit_at (get_or old k 0) i)) (one (bit_at (get_or others k 0) i)))
    → (number : ℕ) → number / 64 < length old → has_bit now number ≡ test (has_bit old number) (has_bit others number)
worked_all make test old others now index end w bits number within =
    ap (λ word. one (bit_at word (number % 64))) (w.done (number / 64) (omega arith)) ∙ bits (number / 64) (number % 64) within (omega arith)

-- ---- one more number

bit_gained : (word number other : ℕ) (b : Bool) → (number % 64 == other % 64) ≡ b
    → one (bit_at (bit_or word (1 * 2 ^ (number % 64) % 2 ^ 64)) (other % 64)) ≡ (one (bit_at word (other % 64)) || b)
bit_gained word number other true same =
    let at : number % 64 ≡ other % 64 = eqb-true (number % 64) (other % 64) same in
    ap one (ap (bit_at (bit_or word (1 * 2 ^ (number % 64) % 2 ^ 64))) (sym at) ∙ bit_at_set_same w64 word (number % 64) (omega arith))
    ∙ sym (or_true (one (bit_at word (other % 64))))
bit_gained word number other false differs =
    ap one (bit_at_set_other w64 word (number % 64) (omega arith) (other % 64) (λ e. false≢true (sym differs ∙ eq-eqb (number % 64) (other % 64) (sym e))))
    ∙ sym (or_false (one (bit_at word (other % 64))))

-- one number is another where their words and their bits are the same
same_number : (number other : ℕ) → number / 64 ≡ other / 64 → (number % 64 == other % 64) ≡ (number == other)
same_number number other same = grind (arith, nat_tests)

other_word : (number other : ℕ) → number / 64 ≢ other / 64 → (number == other) ≡ false
other_word number other differs = ne_eqb number other (λ e. differs (ap (λ n. n / 64) e))

module _ (words : List ℕ) (number : ℕ) (within : number / 64 < length words) where
  -- the word of the number, with its bit
  abbrev pub word_with : ℕ
  word_with = bit_or (get_or words (number / 64) 0) (1 * 2 ^ (number % 64) % 2 ^ 64)

  gained : (other : ℕ) → (number / 64 ≡ other / 64) ⊎ (number / 64 ≢ other / 64)
      → has_bit (set words (number / 64) word_with) other ≡ (has_bit words other || number == other)
  gained other (inl same) =
      ap (λ w. one (bit_at w (other % 64))) (ap (λ k. get_or (set words (number / 64) word_with) k 0) (sym same)
      ∙ get_or-set_same words (number / 64) word_with 0 within)
      ∙ bit_gained (get_or words (number / 64) 0) number other (number == other) (same_number number other same)
      ∙ ap (λ k. one (bit_at (get_or words k 0) (other % 64)) || (number == other)) same
  gained other (inr differs) =
      ap (λ w. one (bit_at w (other % 64))) (get_or-set_other words (number / 64) (other / 64) word_with 0 (λ e. differs (sym e)))
      ∙ sym (or_false (has_bit words other)) ∙ ap (λ b. has_bit words other || b) (sym (other_word number other differs))

  pub gains : GainsBit words (set words (number / 64) word_with) number
  gains = record { size = length-set words (number / 64) word_with; bits = λ other. gained other (cases_eq (number / 64) (other / 64)) }

-- one more number of the range
pub passed_more : (test : ℕ → Bool) (index : ℕ) (b : Bool) → test (index + 1) ≡ b
    → filter test (range_with_len 1 (index + 1)) ≡ filter test (range_with_len 1 index) ++ cond b ((index + 1) ∷ []) []
passed_more test index b is =
    ap (filter test) (sym (map-id (range_with_len 1 (index + 1))))
    ∙ filter_of_map_range_with_len_more test (λ n. n) 1 index (index + 1) (omega arith)
    ∙ ap (λ l. filter test l ++ cond (test (index + 1)) ((index + 1) ∷ []) []) (map-id (range_with_len 1 index))
    ∙ ap (λ t. filter test (range_with_len 1 index) ++ cond t ((index + 1) ∷ []) []) is
