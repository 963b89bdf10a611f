-- One index of a list, after a change or in a longer list.
use Rattle.std.proofs.Common.{◌≡◌, ◌≢◌, ◌⊎◌, ℕ, zero, suc, ◌<◌, ◌++◌, List, [], ◌∷◌, length, map, set, refl, sym, ◌∙◌, ap, subst, arith, inl, inr, Option, Some, None, slice_get}
use Rattle.std.proofs.lemmas.Bool.{cases_eq}
use mathlib.Core.Option.{some, some-injective, some-ne-none}
use lib.ListN.{get_elem?}
pub use Rattle.tx_model.proofs.lemmas.Lists.{at_set, set_here, set_else}

-- an element is put back where it was
pub set_again : {A : Type 0} (l : List A) (i : ℕ) (a : A) → get_elem? l i ≡ some a → set l i a ≡ l
set_again [] i a e = refl
set_again (x ∷ xs) zero a e = ap (λ y. y ∷ xs) (sym (some-injective x a e))
set_again (x ∷ xs) (suc i) a e = ap (λ l. x ∷ l) (set_again xs i a e)

pub get_earlier : {X : Type 0} (xs ys : List X) (k : ℕ) (x : X) → slice_get xs k ≡ Some x → slice_get (xs ++ ys) k ≡ Some x
get_earlier [] ys zero x e = absurd cc
get_earlier [] ys (suc k) x e = absurd cc
get_earlier (y ∷ xs) ys zero x e = e
get_earlier (y ∷ xs) ys (suc k) x e = get_earlier xs ys k x e

pub get_last : {X : Type 0} (xs : List X) (x : X) (k : ℕ) → k ≡ length xs → slice_get (xs ++ x ∷ []) k ≡ Some x
get_last [] x zero e = refl
get_last [] x (suc k) e = absurd (omega (arith, e))
get_last (y ∷ xs) x zero e = absurd (omega (arith, e))
get_last (y ∷ xs) x (suc k) e = get_last xs x k (omega (arith, e))

pub get_changed : {X : Type 0} (xs : List X) (k : ℕ) (x : X) → k < length xs → slice_get (set xs k x) k ≡ Some x
get_changed [] k x below = absurd (omega (arith, below))
get_changed (y ∷ xs) zero x below = refl
get_changed (y ∷ xs) (suc k) x below = get_changed xs k x (omega (arith, below))

pub get_kept : {X : Type 0} (xs : List X) (at k : ℕ) (x : X) → k ≢ at → slice_get (set xs at x) k ≡ slice_get xs k
get_kept [] at k x apart = refl
get_kept (y ∷ xs) zero zero x apart = absurd (apart refl)
get_kept (y ∷ xs) zero (suc k) x apart = refl
get_kept (y ∷ xs) (suc at) zero x apart = refl
get_kept (y ∷ xs) (suc at) (suc k) x apart = get_kept xs at k x (λ e. apart (ap suc e))

abbrev pub put_in : {X : Type 0} → Option X → X → Option X
put_in None y = None
put_in (Some x) y = Some y

pub get_put : {X : Type 0} (xs : List X) (k : ℕ) (x : X) → slice_get (set xs k x) k ≡ put_in (slice_get xs k) x
get_put [] zero x = refl
get_put [] (suc k) x = refl
get_put (y ∷ xs) zero x = refl
get_put (y ∷ xs) (suc k) x = get_put xs k x

-- lists that agree at an index agree there after the same change
pub put_agrees : {X : Type 0} (xs ys : List X) (at k : ℕ) (x : X) → slice_get xs k ≡ slice_get ys k → slice_get (set xs at x) k ≡ slice_get (set ys at x) k
put_agrees xs ys at k x e =
    elim (cases_eq k at) [
      | inl same ↦ subst (λ (j : ℕ). slice_get xs j ≡ slice_get ys j → slice_get (set xs at x) j ≡ slice_get (set ys at x) j) (sym same)
          (λ f. get_put xs at x ∙ ap (λ o. put_in o x) f ∙ sym (get_put ys at x)) e
      | inr other ↦ get_kept xs at k x other ∙ e ∙ sym (get_kept ys at k x other)
    ]

-- an index of a longer list is an index of the shorter one, or the last
pub at_last : {X : Type 0} (xs : List X) (x y : X) (k : ℕ) → slice_get (xs ++ x ∷ []) k ≡ Some y
    → ((k < length xs) × (slice_get xs k ≡ Some y)) ⊎ ((k ≡ length xs) × (x ≡ y))
at_last [] x y zero e = inr (refl, cc)
at_last [] x y (suc zero) e = absurd cc
at_last [] x y (suc (suc k)) e = absurd cc
at_last (z ∷ zs) x y zero e = inl (omega arith, e)
at_last (z ∷ zs) x y (suc k) e = elim (at_last zs x y k e) [
  | inl (below, was) ↦ inl (omega (arith, below), was)
  | inr (at, same) ↦ inr (ap suc at, same)
]

-- a mapped list, and an index that is set twice
pub at_map : {A B : Type 0} (f : A → B) (l : List A) (i : ℕ) (a : A) → get_elem? l i ≡ some a → get_elem? (map f l) i ≡ some (f a)
at_map f [] i a e = absurd (some-ne-none a (sym e))
at_map f (x ∷ xs) zero a e = ap (λ y. some (f y)) (some-injective x a e)
at_map f (x ∷ xs) (suc i) a e = at_map f xs i a e

pub map_set : {A B : Type 0} (f : A → B) (l : List A) (i : ℕ) (a : A) → map f (set l i a) ≡ set (map f l) i (f a)
map_set f [] i a = refl
map_set f (x ∷ xs) zero a = refl
map_set f (x ∷ xs) (suc i) a = ap (λ l. f x ∷ l) (map_set f xs i a)

pub set_twice : {A : Type 0} (l : List A) (i : ℕ) (a b : A) → set (set l i a) i b ≡ set l i b
set_twice [] i a b = refl
set_twice (x ∷ xs) zero a b = refl
set_twice (x ∷ xs) (suc i) a b = ap (λ l. x ∷ l) (set_twice xs i a b)
