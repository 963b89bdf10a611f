-- The hits of a query as bits, from those of its members.
use Rattle.std.proofs.Common.{◌≡◌, ℕ, zero, suc, ◌+◌, ◌/◌, ◌<◌, ◌≤◌, Bool, not, cond, ◌&&◌, ◌||◌, List, [], ◌∷◌, ◌++◌, length, take, filter, refl, sym, ap, ◌∙◌, arith, slice_get, Some, append-nil, append_assoc}
use Rattle.std.specs.List.{list_all, list_any, flat_map, range_with_len}
use Rattle.std.proofs.lemmas.List.{take_more}
use Rattle.std.proofs.lemmas.Option.{get_or_from_slice_get, slice_get_within}
use Rattle.mail_words.specs.Key.{KeyNumbers}
use Rattle.mail_query.specs.declared.query.Query.{Query}
use Rattle.mail_query.specs.Answers.{Table, keys_with}
use Rattle.mail_query.specs.Bits.{has_bit, AreWords, HasBits}
use Rattle.mail_query.specs.Truth.{satisfies, keys_in}

-- ---- bits

bit_within : (count number : ℕ) (words : List ℕ) → AreWords count words → number ≤ count → number / 64 < length words
bit_within count number words size high = omega (arith, size)

pub complemented : (count : ℕ) (old new : List ℕ) (p : ℕ → Bool) → AreWords count old
    → ((number : ℕ) → number / 64 < length old → has_bit new number ≡ not (has_bit old number))
    → HasBits count old p → HasBits count new (λ number. not (p number))
complemented count old new p size bits has number low high = bits number (bit_within count number old size high) ∙ ap not (has number low high)

pub in_both : (count : ℕ) (old other new : List ℕ) (p q : ℕ → Bool) → AreWords count old
    → ((number : ℕ) → number / 64 < length old → has_bit new number ≡ (has_bit old number && has_bit other number)) → HasBits count old p
    → HasBits count other q
    → HasBits count new (λ number. p number && q number)
in_both count old other new p q size bits has_p has_q number low high =
    bits number (bit_within count number old size high) ∙ ap (λ b. b && has_bit other number) (has_p number low high)
    ∙ ap (λ b. p number && b) (has_q number low high)

pub in_either : (count : ℕ) (old other new : List ℕ) (p q : ℕ → Bool) → AreWords count old
    → ((number : ℕ) → number / 64 < length old → has_bit new number ≡ (has_bit old number || has_bit other number)) → HasBits count old p
    → HasBits count other q
    → HasBits count new (λ number. p number || q number)
in_either count old other new p q size bits has_p has_q number low high =
    bits number (bit_within count number old size high) ∙ ap (λ b. b || has_bit other number) (has_p number low high)
    ∙ ap (λ b. p number || b) (has_q number low high)

pub same_bits : (count : ℕ) (words : List ℕ) (p q : ℕ → Bool) → ((number : ℕ) → p number ≡ q number) → HasBits count words p → HasBits count words q
same_bits count words p q same has number low high = has number low high ∙ same number

-- ---- the numbers of a range

both_kept : (n : ℕ) (rest other : List ℕ) (s t : Bool) → s ≡ t → rest ≡ other → cond s (n ∷ rest) rest ≡ cond t (n ∷ other) other
both_kept n rest other s t same more = ap (λ b. cond b (n ∷ rest) rest) same ∙ ap (λ l. cond t (n ∷ l) l) more

in_range : (p q : ℕ → Bool) (a n : ℕ) → ((k : ℕ) → a ≤ k → k < a + n → p k ≡ q k) → filter p (range_with_len a n) ≡ filter q (range_with_len a n)
in_range p q a zero same = refl
in_range p q a (suc n) same =
    both_kept a (filter p (range_with_len (a + 1) n)) (filter q (range_with_len (a + 1) n)) (p a) (q a) (same a (omega arith) (omega arith))
    (in_range p q (a + 1) n (λ k low high. same k (omega arith) (omega arith)))

-- the numbers that have their bits are those that pass
pub numbers_passing : (count : ℕ) (words : List ℕ) (test : ℕ → Bool) → HasBits count words test
    → filter (has_bit words) (range_with_len 1 count) ≡ filter test (range_with_len 1 count)
numbers_passing count words test has = in_range (has_bit words) test 1 count (λ k low high. has k low (omega arith))

-- ---- the members so far

abbrev pub all_of_them : List Query → Table → ℕ → Bool
all_of_them qs table number = list_all (λ q. satisfies q (keys_with table number)) qs

abbrev pub one_of_them : List Query → Table → ℕ → Bool
one_of_them qs table number = list_any (λ q. satisfies q (keys_with table number)) qs

flat_map-append : (f : Query → List KeyNumbers) (qs more : List Query) → flat_map f (qs ++ more) ≡ flat_map f qs ++ flat_map f more
flat_map-append f [] more = refl
flat_map-append f (q ∷ qs) more = ap (λ l. f q ++ l) (flat_map-append f qs more) ∙ sym (append_assoc (f q) (flat_map f qs) (flat_map f more))

-- the keys of one member more
pub keys_more : (qs : List Query) (index : ℕ) (q : Query) → slice_get qs index ≡ Some q
    → flat_map keys_in (take (index + 1) qs) ≡ flat_map keys_in (take index qs) ++ keys_in q
keys_more qs index q is =
    ap (flat_map keys_in) (take_more qs index q (slice_get_within qs index q is) ∙ ap (λ r. take index qs ++ r ∷ []) (get_or_from_slice_get qs index q q is))
    ∙ flat_map-append keys_in (take index qs) (q ∷ [])
    ∙ ap (λ l. flat_map keys_in (take index qs) ++ l) (append-nil (keys_in q))
