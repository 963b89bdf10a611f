-- Each key in turn.
use Rattle.std.proofs.Common.{ℕ, zero, suc, ◌<◌, ◌≤◌, [], ◌∷◌, refl, arith, inl, inr}
use Rattle.tx_heap.specs.Examples.{small}
use Rattle.tx_postings.specs.Batch.{TakeWords, free_words}
use Rattle.tx_postings.specs.Examples.{e, with_free}
use Rattle.tx_postings.proofs.ExamplesFacts.{a_is_there, e_is_not, none_in}
use Rattle.tx_postings.proofs.laws.room_examples.Goals as goal

pub returns-clause-takes : goal.returns-clause-takes
returns-clause-takes c = (2, 8, refl, (8, 0, refl, refl, inl (refl, inr (e_is_not, refl))), inl (refl, inl ((10, a_is_there), refl)))

pub returns-clause-short : goal.returns-clause-short
returns-clause-short c = record {
  short = record { own = refl; free_is = refl; needs_is = (8, 0, refl, refl, inl (refl, inr (none_in 32762, refl))); fewer = omega arith };
  lowest = λ other below. absurd (omega (arith, below));
}

-- a key takes eight words at most
at_most : (lane count : ℕ) → TakeWords small (with_free 32760) lane (e ∷ []) count → count ≤ 8
at_most lane count (own, rest, both, none, inl (of_lane, inl (there, two))) = omega (arith, both, none, two)
at_most lane count (own, rest, both, none, inl (of_lane, inr (there, eight))) = omega (arith, both, none, eight)
at_most lane count (own, rest, both, none, inr (other, zero_words)) = omega (arith, both, none, zero_words)

eight_free : (lane : ℕ) → lane < 1 → 8 ≤ free_words (with_free 32760) lane
eight_free zero below = omega arith
eight_free (suc lane) below = absurd (omega (arith, below))

pub returns-clause-enough : goal.returns-clause-enough
returns-clause-enough c lane below count takes = omega (arith, at_most lane count takes, eight_free lane below)
