-- Lists of which every two elements are related.
use Rattle.std.specs.Prelude.{ℕ, suc, ◌<◌, List, [], ◌∷◌, length, slice_index_or}
use Rattle.std.specs.List.{All}
use Rattle.std.proofs.Common.{arith}

-- each element and each later one
abbrev pub Pairwise : {X : Type 0} → (X → X → Type 0) → List X → Type 0
Pairwise R [] = Unit {0}
Pairwise R (x ∷ xs) = All (R x) xs × Pairwise R xs

pub Pairwise-from_indices : {X : Type 0} (R : X → X → Type 0) (xs : List X)
    → ((i j : ℕ) (d : X) → i < j → j < length xs → R (slice_index_or xs i d) (slice_index_or xs j d)) → Pairwise R xs
Pairwise-from_indices R [] each = tt
Pairwise-from_indices R (x ∷ xs) each = (
  λ k d below. each 0 (suc k) d (omega arith) (omega (arith, below)),
  Pairwise-from_indices R xs
      (λ i j d before below. each (suc i) (suc j) d (omega (arith, before)) (omega (arith, below))),
)
