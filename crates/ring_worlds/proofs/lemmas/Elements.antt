-- The elements of a list by their indexes.
use Rattle.std.proofs.Common.{◌≡◌, ℕ, zero, suc, ◌<◌, List, [], ◌∷◌, length, get_or, refl, sym, arith}
use mathlib.Core.Option.{some, some-injective, some-ne-none}
use lib.ListN.{get_elem?}

pub below_length : {X : Type 0} (xs : List X) (i : ℕ) (x : X) → get_elem? xs i ≡ some x → i < length xs
below_length [] i x e = absurd (some-ne-none x (sym e))
below_length (y ∷ xs) zero x e = omega arith
below_length (y ∷ xs) (suc i) x e = omega (arith, below_length xs i x e)

pub get_there : {X : Type 0} (xs : List X) (i : ℕ) (x d : X) → get_elem? xs i ≡ some x → get_or xs i d ≡ x
get_there [] i x d e = absurd (some-ne-none x (sym e))
get_there (y ∷ xs) zero x d e = some-injective y x e
get_there (y ∷ xs) (suc i) x d e = get_there xs i x d e

pub elem_there : {X : Type 0} (xs : List X) (i : ℕ) (d : X) → i < length xs → get_elem? xs i ≡ some (get_or xs i d)
elem_there [] i d below = absurd (omega arith)
elem_there (y ∷ xs) zero d below = refl
elem_there (y ∷ xs) (suc i) d below = elem_there xs i d (omega arith)

-- the default doesn't matter
pub get_either : {X : Type 0} (xs : List X) (i : ℕ) (d e : X) → i < length xs → get_or xs i d ≡ get_or xs i e
get_either [] i d e below = absurd (omega arith)
get_either (y ∷ xs) zero d e below = refl
get_either (y ∷ xs) (suc i) d e below = get_either xs i d e (omega arith)
