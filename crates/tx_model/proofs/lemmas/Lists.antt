-- What a list has at an index after a change of one item and with more items at its end.
use Rattle.std.proofs.Common.{◌≡◌, ◌≢◌, ◌⊎◌, ℕ, zero, suc, ◌<◌, ◌++◌, List, [], ◌∷◌, length, set, refl, sym, ap, arith, inl, inr}
use mathlib.Core.Option.{some, some-injective, some-ne-none}
use lib.ListN.{get_elem?}

pub at_set : {X : Type 0} (xs : List X) (id i : ℕ) (new x : X) → get_elem? (set xs id new) i ≡ some x
    → ((i ≡ id) × (new ≡ x)) ⊎ ((i ≢ id) × (get_elem? xs i ≡ some x))
at_set [] id i new x e = absurd (some-ne-none x (sym e))
at_set (y ∷ ys) zero zero new x e = inl (refl, some-injective new x e)
at_set (y ∷ ys) zero (suc i) new x e = inr (λ same. omega (arith, same), e)
at_set (y ∷ ys) (suc id) zero new x e = inr (λ same. omega (arith, same), e)
at_set (y ∷ ys) (suc id) (suc i) new x e =
    elim (at_set ys id i new x e) [
      | inl (same, is) ↦ inl (ap suc same, is)
      | inr (apart, there) ↦ inr (λ same. apart (omega (arith, same)), there)
    ]

pub set_here : {X : Type 0} (xs : List X) (i : ℕ) (new x : X) → get_elem? xs i ≡ some x → get_elem? (set xs i new) i ≡ some new
set_here [] i new x e = absurd (some-ne-none x (sym e))
set_here (y ∷ ys) zero new x e = refl
set_here (y ∷ ys) (suc i) new x e = set_here ys i new x e

pub set_else : {X : Type 0} (xs : List X) (id i : ℕ) (new : X) → i ≢ id → get_elem? (set xs id new) i ≡ get_elem? xs i
set_else [] id i new apart = refl
set_else (y ∷ ys) zero zero new apart = absurd (apart refl)
set_else (y ∷ ys) zero (suc i) new apart = refl
set_else (y ∷ ys) (suc id) zero new apart = refl
set_else (y ∷ ys) (suc id) (suc i) new apart = set_else ys id i new (λ same. apart (ap suc same))

pub at_end : {X : Type 0} (xs : List X) (last x : X) (i : ℕ) → get_elem? (xs ++ last ∷ []) i ≡ some x
    → (get_elem? xs i ≡ some x) ⊎ ((i ≡ length xs) × (last ≡ x))
at_end [] last x zero e = inr (refl, some-injective last x e)
at_end [] last x (suc i) e = absurd (some-ne-none x (sym e))
at_end (y ∷ ys) last x zero e = inl e
at_end (y ∷ ys) last x (suc i) e =
    elim (at_end ys last x i e) [
      | inl there ↦ inl there
      | inr (here, is) ↦ inr (ap suc here, is)
    ]

pub at_longer : {X : Type 0} (xs more : List X) (i : ℕ) (x : X) → get_elem? xs i ≡ some x → get_elem? (xs ++ more) i ≡ some x
at_longer [] more i x e = absurd (some-ne-none x (sym e))
at_longer (y ∷ ys) more zero x e = e
at_longer (y ∷ ys) more (suc i) x e = at_longer ys more i x e

pub index_below : {X : Type 0} (xs : List X) (i : ℕ) (x : X) → get_elem? xs i ≡ some x → i < length xs
index_below [] i x e = absurd (some-ne-none x (sym e))
index_below (y ∷ ys) zero x e = omega arith
index_below (y ∷ ys) (suc i) x e = omega (arith, index_below ys i x e)

-- where there is one alone
pub only_item : {X : Type 0} (view : X) (i : ℕ) (x : X) → get_elem? (view ∷ []) i ≡ some x → (i ≡ 0) × (view ≡ x)
only_item view zero x e = (refl, some-injective view x e)
only_item view (suc i) x e = absurd (some-ne-none x (sym e))
