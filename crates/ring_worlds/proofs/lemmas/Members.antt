-- Members of lists.
use Rattle.std.proofs.Common.{◌≡◌, ◌⊎◌, ℕ, zero, suc, Bool, true, List, [], ◌∷◌, Some, map, slice_get, Contains, refl, sym, ◌∙◌, ap, arith, inl, inr}
use Rattle.std.specs.List.{filter}
use Rattle.std.proofs.lemmas.Bool.{cond_both, false≢true}
use Rattle.std.proofs.lemmas.Option.{slice_get_within, get_or_from_slice_get, slice_get-get_or}

pub contains_more : {X : Type 0} (x : X) (xs : List X) (y : X) → Contains xs y → Contains (x ∷ xs) y
contains_more x xs y (k, below, at) = (suc k, omega (arith, below), at)

pub contains_cases : {X : Type 0} (x : X) (xs : List X) (y : X) → Contains (x ∷ xs) y → (x ≡ y) ⊎ Contains xs y
contains_cases x xs y (zero, below, at) = inl at
contains_cases x xs y (suc k, below, at) = inr (k, omega (arith, below), at)

pub contains_none : {X : Type 0} (y : X) → Contains [] y → ⊥
contains_none y (k, below, at) = omega (arith, below)

pub filter_has : {X : Type 0} (f : X → Bool) (xs : List X) (y : X) → Contains xs y → f y ≡ true → Contains (filter f xs) y
filter_has f [] y among passes = among
filter_has f (x ∷ xs) y among passes =
    cond_both (f x) (x ∷ filter f xs) (filter f xs) (λ l. Contains l y)
    (λ is. elim (contains_cases x xs y among) [
      | inl same ↦ (0, omega arith, same)
      | inr rest ↦ contains_more x (filter f xs) y (filter_has f xs y rest passes)
    ])
    (λ is. elim (contains_cases x xs y among) [
      | inl same ↦ absurd (false≢true (sym is ∙ ap f same ∙ passes))
      | inr rest ↦ filter_has f xs y rest passes
    ])

pub filter_from : {X : Type 0} (f : X → Bool) (xs : List X) (y : X) → Contains (filter f xs) y → Contains xs y
filter_from f [] y among = among
filter_from f (x ∷ xs) y among =
    cond_both (f x) (x ∷ filter f xs) (filter f xs) (λ l. Contains l y → Contains (x ∷ xs) y)
    (λ is in_list. elim (contains_cases x (filter f xs) y in_list) [
      | inl same ↦ (0, omega arith, same)
      | inr rest ↦ contains_more x xs y (filter_from f xs y rest)
    ])
    (λ is in_list. contains_more x xs y (filter_from f xs y in_list)) among

pub map_from : {X Y : Type 0} (f : X → Y) (xs : List X) (y : Y) → Contains (map f xs) y → (x : X) × Contains xs x × (f x ≡ y)
map_from f [] y among = absurd (contains_none y among)
map_from f (x ∷ xs) y among =
    elim (contains_cases (f x) (map f xs) y among) [
      | inl same ↦ (x, (0, omega arith, refl), same)
      | inr rest ↦ let found = map_from f xs y rest in (found.0, contains_more x xs found.0 found.1, found.2)
    ]

pub index_in : {X : Type 0} (xs : List X) (x : X) → Contains xs x → (k : ℕ) × (slice_get xs k ≡ Some x)
index_in xs x (k, below, at) = (k, slice_get-get_or xs k x below ∙ ap (λ y. Some y) at)

pub among_at : {X : Type 0} (xs : List X) (k : ℕ) (x : X) → slice_get xs k ≡ Some x → Contains xs x
among_at xs k x e = (k, slice_get_within xs k x e, get_or_from_slice_get xs k x x e)

-- what a filter keeps passes the test
pub filter_passes : {X : Type 0} (f : X → Bool) (xs : List X) (y : X) → Contains (filter f xs) y → f y ≡ true
filter_passes f [] y among = absurd (contains_none y among)
filter_passes f (x ∷ xs) y among =
    cond_both (f x) (x ∷ filter f xs) (filter f xs) (λ l. Contains l y → f y ≡ true)
    (λ is in_list. elim (contains_cases x (filter f xs) y in_list) [
      | inl same ↦ ap f (sym same) ∙ is
      | inr rest ↦ filter_passes f xs y rest
    ])
    (λ is in_list. filter_passes f xs y in_list) among

-- an element of a mapped list
pub map_at : {X Y : Type 0} (f : X → Y) (xs : List X) (j : ℕ) (y : Y) → slice_get (map f xs) j ≡ Some y → (x : X) × (slice_get xs j ≡ Some x) × (f x ≡ y)
map_at f [] zero y e = absurd cc
map_at f [] (suc j) y e = absurd cc
map_at f (x ∷ xs) zero y e = (x, refl, let same : f x ≡ y = cc in same)
map_at f (x ∷ xs) (suc j) y e = map_at f xs j y e
