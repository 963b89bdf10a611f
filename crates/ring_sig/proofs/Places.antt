-- Which places a set has, after a place is put in and where two sets are compared.
use Rattle.std.proofs.Common.{◌≡◌, ◌≢◌, ℕ, ◌+◌, ◌-◌, ◌*◌, ◌/◌, ◌%◌, ◌^◌, ◌≤◌, ◌<◌, List, length, get_or, set, take, bit_or, max, refl, sym, ◌∙◌, ap, subst, arith, inl, inr}
use Rattle.std.specs.Int.{bit_at, w64, trailing_zeros}
use Rattle.std.specs.Int.Count.{count_trailing_zeros}
use Rattle.std.proofs.lemmas.List.{length-set, get_or-take, get_or-set_same, get_or-set_other}
use Rattle.std.proofs.Math.Seq.{take-set-lt}
use Rattle.std.proofs.lemmas.Bool.{cases_eq}
use Rattle.std.proofs.lemmas.Nat.{one_shl, div_below, mod_below, div-add-mod'}
use Rattle.std.proofs.lemmas.Nat.Bits.{bit_at_or, bit_at-pow_same, bit_at-pow_other, bit_at-lt}
use Rattle.ring_sig.specs.Signature.{IsWordCount, IsBitCount, place_of, bits_of, HasPlace, AddsPlace, with_place}
use Rattle.ring_sig.proofs.Words.{by_bits, bits_from_words}

-- the shift that keeps the top bits
pub shift_is : (bits : ℕ) → IsBitCount bits → 2 ^ (64 - trailing_zeros w64 bits) ≡ 2 ^ 64 / bits
unfolding count_trailing_zeros
shift_is bits h = by_bits (λ b. 2 ^ (64 - trailing_zeros w64 b) ≡ 2 ^ 64 / b) refl refl refl refl refl bits h

pub shift_fits : (bits : ℕ) → IsBitCount bits → (1 ≤ trailing_zeros w64 bits) × (trailing_zeros w64 bits ≤ 64)
unfolding count_trailing_zeros
shift_fits bits h =
    by_bits (λ b. (1 ≤ trailing_zeros w64 b) × (trailing_zeros w64 b ≤ 64)) (omega arith, omega arith) (omega arith, omega arith) (omega arith, omega arith)
    (omega arith, omega arith) (omega arith, omega arith) bits h

pub place_below : (addr bits : ℕ) → IsBitCount bits → place_of addr bits < bits
unfolding place_of
place_below addr bits h =
    let top : addr * 0x9E3779B97F4A7C15 % 2 ^ 64 < 2 ^ 64 = mod_below (addr * 0x9E3779B97F4A7C15) (2 ^ 64) (omega arith) in
    by_bits (λ b. addr * 0x9E3779B97F4A7C15 % 2 ^ 64 / (2 ^ 64 / b) < b)
    (div_below _ _ _ (omega arith) (omega (arith, top)))
    (div_below _ _ _ (omega arith) (omega (arith, top)))
    (div_below _ _ _ (omega arith) (omega (arith, top)))
    (div_below _ _ _ (omega arith) (omega (arith, top)))
    (div_below _ _ _ (omega arith) (omega (arith, top)))
    bits h

module _ (sig : List ℕ) (place : ℕ) (within : place / 64 < length sig) where
  word_with : (k : ℕ) → k ≡ place / 64 → get_or (with_place sig place) k 0 ≡ bit_or (get_or sig k 0) (2 ^ (place % 64))
  unfolding with_place
  word_with k e = rw e (get_or-set_same sig (place / 64) _ 0 within)

  word_without : (k : ℕ) → k ≢ place / 64 → get_or (with_place sig place) k 0 ≡ get_or sig k 0
  unfolding with_place
  word_without k e = get_or-set_other sig (place / 64) k _ 0 e

  -- the place itself
  has_itself : HasPlace (with_place sig place) place
  has_itself =
      rw (word_with (place / 64) refl)
      (rw bit_at_or
      (rw bit_at-pow_same (let m : bit_at (get_or sig (place / 64) 0) (place % 64) < 2 = bit_at-lt _ _ in omega (arith, m))))

  -- another place
  has_other : (q : ℕ) → q ≢ place → bit_at (get_or (with_place sig place) (q / 64) 0) (q % 64) ≡ bit_at (get_or sig (q / 64) 0) (q % 64)
  has_other q ne =
      elim (cases_eq (q / 64) (place / 64)) [
        | inl same ↦
            let apart : q % 64 ≢ place % 64 =
            λ e. ne (sym (div-add-mod' q 64) ∙ (let t : q / 64 * 64 + q % 64 ≡ place / 64 * 64 + place % 64 = omega (arith, same, e) in t)
            ∙ div-add-mod' place 64) in
            ap (λ w. bit_at w (q % 64)) (word_with (q / 64) same)
            ∙ bit_at_or _ _ _
            ∙ ap (λ b. max (bit_at (get_or sig (q / 64) 0) (q % 64)) b) (bit_at-pow_other (place % 64) (q % 64) apart)
            ∙ omega arith
        | inr apart ↦ ap (λ w. bit_at w (q % 64)) (word_without (q / 64) apart)
      ]

  pub adds_place : AddsPlace sig (with_place sig place) place
  unfolding with_place
  adds_place = record {
    size = length-set sig _ _;
    places = λ q. (
      λ has. elim (cases_eq q place) [ inl e ↦ inl e | inr ne ↦ inr (sym (has_other q ne) ∙ has) ],
      λ either. elim either [
        | inl e ↦ subst (λ p. HasPlace (with_place sig place) p) (sym e) has_itself
        | inr had ↦ elim (cases_eq q place) [
          | inl e ↦ subst (λ p. HasPlace (with_place sig place) p) (sym e) has_itself
          | inr ne ↦ has_other q ne ∙ had
        ]
      ],
    );
  }

-- a place of an address is in the words
pub place_within : (addr : ℕ) (sig : List ℕ) → IsWordCount (length sig) → place_of addr (bits_of sig) / 64 < length sig
place_within addr sig h =
    div_below _ 64 _ (omega arith) (let p = place_below addr (bits_of sig) (bits_from_words (length sig) h) in omega (arith, p))

-- a place put into the array of a set
pub array_with : (words : List ℕ) (n place : ℕ) → place / 64 < n → n ≤ length words
    → take n (set words (place / 64) (bit_or (get_or words (place / 64) 0) (1 * 2 ^ (place % 64) % 2 ^ 64))) ≡ with_place (take n words) place
unfolding with_place
array_with words n place within fits =
    let shift : 1 * 2 ^ (place % 64) % 2 ^ 64 ≡ 2 ^ (place % 64) = one_shl (place % 64) 64 (mod_below place 64 (omega arith)) in
    rw shift (rw get_or-take (take-set-lt n words (place / 64) _ within))
