-- The five counts of words and of bits, case by case.
use Rattle.std.proofs.Common.{ℕ, ◌*◌, ◌≤◌, refl, sym, subst, arith, inl, inr}
use Rattle.std.proofs.lemmas.Bool.{or_cases, eqb-true}
use Rattle.ring_sig.specs.Signature.{IsWordCount, IsBitCount}

module _ (P : ℕ → Type 0) where
  pub by_words : P 1 → P 2 → P 4 → P 8 → P 16 → (w : ℕ) → IsWordCount w → P w
  by_words p1 p2 p4 p8 p16 w h =
      elim (or_cases _ _ h) [
        | inl e ↦ subst P (sym (eqb-true w 1 e)) p1
        | inr h2 ↦ elim (or_cases _ _ h2) [
          | inl e ↦ subst P (sym (eqb-true w 2 e)) p2
          | inr h4 ↦ elim (or_cases _ _ h4) [
            | inl e ↦ subst P (sym (eqb-true w 4 e)) p4
            | inr h8 ↦ elim (or_cases _ _ h8) [
              | inl e ↦ subst P (sym (eqb-true w 8 e)) p8
              | inr e ↦ subst P (sym (eqb-true w 16 e)) p16
            ]
          ]
        ]
      ]

  pub by_bits : P 64 → P 128 → P 256 → P 512 → P 1024 → (b : ℕ) → IsBitCount b → P b
  by_bits p1 p2 p4 p8 p16 b h =
      elim (or_cases _ _ h) [
        | inl e ↦ subst P (sym (eqb-true b 64 e)) p1
        | inr h2 ↦ elim (or_cases _ _ h2) [
          | inl e ↦ subst P (sym (eqb-true b 128 e)) p2
          | inr h4 ↦ elim (or_cases _ _ h4) [
            | inl e ↦ subst P (sym (eqb-true b 256 e)) p4
            | inr h8 ↦ elim (or_cases _ _ h8) [
              | inl e ↦ subst P (sym (eqb-true b 512 e)) p8
              | inr e ↦ subst P (sym (eqb-true b 1024 e)) p16
            ]
          ]
        ]
      ]

pub bits_from_words : (w : ℕ) → IsWordCount w → IsBitCount (64 * w)
bits_from_words w h = by_words (λ v. IsBitCount (64 * v)) refl refl refl refl refl w h

pub words_at_most : (w : ℕ) → IsWordCount w → (1 ≤ w) × (w ≤ 16)
words_at_most w h =
    by_words (λ v. (1 ≤ v) × (v ≤ 16)) (omega arith, omega arith) (omega arith, omega arith) (omega arith, omega arith) (omega arith, omega arith)
    (omega arith, omega arith) w h
