-- The segments in turn.
use Rattle.std.proofs.Common.{◌≡◌, ℕ, List, [], ◌∷◌, length, refl, ◌∙◌, ap, arith, inl, inr}
use Rattle.std.proofs.lemmas.List.{length-append}
use Rattle.tx_heap.specs.Examples.{a, small}
use Rattle.tx_postings.specs.Listing.{AreOfSegment, AreListed}
use Rattle.tx_postings.specs.Examples.{two_segments}
use Rattle.tx_postings.proofs.ExamplesFacts.{a_in_old, a_in_new, a_has}
use Rattle.tx_postings.proofs.laws.list_examples.Goals as goal

-- the old segment has two messages
two_of_old : (messages : List ℕ) → AreOfSegment small a (two_segments 1) 0 messages → length messages ≡ 2
two_of_old messages (inl (is_open, inl (at, is, are))) = ap length are ∙ ap length (a_has at is)
two_of_old messages (inl (is_open, inr (none, are))) = absurd (none 10 a_in_old)
two_of_old messages (inr (is_packed, are)) = absurd (omega (arith, is_packed))

pub returns-clause-list : goal.returns-clause-list
returns-clause-list c =
    (4 ∷ [], 3 ∷ 1 ∷ [], refl, inl (refl, inl (10, a_in_new, refl)), (3 ∷ 1 ∷ [], [], refl, inl (refl, inl (10, a_in_old, refl)), refl))

pub returns-clause-ends_early : goal.returns-clause-ends_early
returns-clause-ends_early c (here, rest, both, new, (old_here, old_rest, old_both, old, none)) =
    omega (arith, ap length both, length-append here rest, ap length old_both, length-append old_here old_rest, two_of_old old_here old)

pub returns-clause-packed : goal.returns-clause-packed
returns-clause-packed c = (4 ∷ [], [], refl, inl (refl, inl (10, a_in_new, refl)), ([], [], refl, inr (refl, refl), refl))

sealed_is_neither : (messages : List ℕ) → AreOfSegment small a (two_segments 2) 0 messages → ⊥
sealed_is_neither messages (inl (is_open, are)) = omega (arith, is_open)
sealed_is_neither messages (inr (is_packed, are)) = omega (arith, is_packed)

cut_off : AreListed small a (two_segments 2) (4 ∷ []) → ⊥
cut_off (here, rest, both, new, (old_here, old_rest, old_both, old, none)) = sealed_is_neither old_here old

pub returns-clause-met_sealed : goal.returns-clause-met_sealed
returns-clause-met_sealed c = (
  record { front = 1 ∷ []; behind = []; among = refl; is_sealed = refl; listed = (4 ∷ [], [], refl, inl (refl, inl (10, a_in_new, refl)), refl) },
  λ listed. cut_off listed,
)
