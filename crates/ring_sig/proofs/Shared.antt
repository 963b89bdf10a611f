-- Two sets compared word by word, and place by place.
use Rattle.std.proofs.Common.{◌≡◌, ◌≢◌, ℕ, ◌+◌, ◌*◌, ◌/◌, ◌%◌, ◌^◌, ◌<◌, ◌&&◌, true, List, length, get_or, take, bit_and, sym, ◌∙◌, ap, subst, arith, inl, inr, eq-eqb}
use Rattle.std.specs.Int.{bit_at, w64, trailing_zeros}
use Rattle.std.specs.List.{range_with_len}
use Rattle.std.proofs.lemmas.List.{get_or_past, get_or-take}
use Rattle.std.proofs.lemmas.List.Folds.{Any-from_list_any, list_any_at}
use Rattle.std.proofs.lemmas.List.FromFn.{length-range_with_len, get_or-range_with_len}
use Rattle.std.proofs.lemmas.Bool.{cases_lt, and_parts, and_from, eqb-true}
use Rattle.std.proofs.lemmas.Nat.{div-mul-add, mod-mul-add, and_le_l}
use Rattle.std.proofs.lemmas.Nat.Bits.{bit_at_and, bit_at-zero, bit_at-lt, bit_at-trailing_zeros}
use Rattle.ring_sig.specs.Signature.{bits_of, HasPlace, has_place, SharesPlace, meets}

module _ (s t : List ℕ) where
  pub place_is_within : (p : ℕ) → HasPlace s p → p / 64 < length s
  place_is_within p has =
      elim (cases_lt (p / 64) (length s)) [
        | inl below ↦ below
        | inr past ↦
            let none : bit_at (get_or s (p / 64) 0) (p % 64) ≡ 0 = ap (λ w. bit_at w (p % 64)) (get_or_past s (p / 64) 0 past) ∙ bit_at-zero (p % 64) in
            absurd (omega (arith, none, has))
      ]

  -- a common bit of word j is a common place
  pub shares_from_word : (j : ℕ) → bit_and (get_or s j 0) (get_or t j 0) ≢ 0 → bit_and (get_or s j 0) (get_or t j 0) < 2 ^ 64 → SharesPlace s t
  shares_from_word j some fits =
      let both : ℕ = bit_and (get_or s j 0) (get_or t j 0) in
      let i : ℕ = trailing_zeros w64 both in
      let lowest = bit_at-trailing_zeros w64 both (omega (arith, some)) fits in
      let each = sym (bit_at_and (get_or s j 0) (get_or t j 0) i) ∙ lowest.1 in
      let small : i < 64 = lowest.0 in
      let word : (j * 64 + i) / 64 ≡ j = div-mul-add j 64 i small in
      let bit : (j * 64 + i) % 64 ≡ i = mod-mul-add j 64 i small in (
        j * 64 + i,
        rw (word, bit) (omega (arith, each, bit_at-lt (get_or s j 0) i, bit_at-lt (get_or t j 0) i)),
        rw (word, bit) (omega (arith, each, bit_at-lt (get_or s j 0) i, bit_at-lt (get_or t j 0) i)),
      )

  -- where no word of one meets that of the other, no place is in both
  pub apart_from_words : ((k : ℕ) → k < length s → bit_and (get_or s k 0) (get_or t k 0) ≡ 0) → SharesPlace s t → ⊥
  apart_from_words each (p, in_s, in_t) =
      let none = each (p / 64) (place_is_within p in_s) in
      let one = bit_at_and (get_or s (p / 64) 0) (get_or t (p / 64) 0) (p % 64) in
      let zero' : bit_at (bit_and (get_or s (p / 64) 0) (get_or t (p / 64) 0)) (p % 64) ≡ 0 = ap (λ w. bit_at w (p % 64)) none ∙ bit_at-zero (p % 64) in
      omega (arith, one, zero', in_s, in_t)

  pub shares_from_meets : meets s t ≡ true → SharesPlace s t
  unfolding meets
  shares_from_meets h =
      let found = Any-from_list_any (λ p. has_place s p && has_place t p) (range_with_len 0 (bits_of s)) h in
      let both = and_parts _ _ found.4 in
      (found.1, eqb-true _ 1 both.0, eqb-true _ 1 both.1)

  pub meets_from_shares : SharesPlace s t → meets s t ≡ true
  unfolding meets
  meets_from_shares (p, in_s, in_t) =
      let within : p < bits_of s = let w = place_is_within p in_s in omega (arith, w) in
      let at : get_or (range_with_len 0 (bits_of s)) p 0 ≡ p = get_or-range_with_len 0 (bits_of s) p 0 within ∙ omega arith in
      list_any_at (λ q. has_place s q && has_place t q) (range_with_len 0 (bits_of s)) p 0 (omega (arith, length-range_with_len 0 (bits_of s), within))
      (subst (λ q. (has_place s q && has_place t q) ≡ true) (sym at) (and_from _ _ (eq-eqb _ 1 in_s) (eq-eqb _ 1 in_t)))

-- the same of the first n words of two arrays
module _ (ws vs : List ℕ) (n : ℕ) where
  pub shares_at : (j : ℕ) → j < n → bit_and (get_or ws j 0) (get_or vs j 0) ≢ 0 → get_or ws j 0 < 2 ^ 64 → SharesPlace (take n ws) (take n vs)
  shares_at j below some fits =
      shares_from_word (take n ws) (take n vs) j
      (subst (λ w. bit_and w (get_or (take n vs) j 0) ≢ 0) (sym (get_or-take n ws j 0 below))
      (subst (λ v. bit_and (get_or ws j 0) v ≢ 0) (sym (get_or-take n vs j 0 below)) some))
      (let smaller = and_le_l (get_or (take n ws) j 0) (get_or (take n vs) j 0) in omega (arith, smaller, get_or-take n ws j 0 below))

  pub apart_below : length (take n ws) ≡ n → ((k : ℕ) → k < n → bit_and (get_or ws k 0) (get_or vs k 0) ≡ 0) → SharesPlace (take n ws) (take n vs) → ⊥
  apart_below long each =
      apart_from_words (take n ws) (take n vs)
      (λ k below. let within : k < n = omega (arith, below, long) in rw (get_or-take n ws k 0 within, get_or-take n vs k 0 within) (each k within))
