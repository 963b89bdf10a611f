-- The chains of lanes: what is in one, and what doesn't change it.
use Rattle.std.proofs.Common.{◌≡◌, ℕ, zero, suc, ◌-◌, ◌<◌, ◌≤◌, ◌==◌, ◌⊎◌, List, [], ◌∷◌, get_or, refl, sym, ◌∙◌, ap, subst, arith, inl, inr}
use Rattle.std.specs.Prelude.{Contains}
use Rattle.std.proofs.lemmas.Bool.{cases_eq, cond-true, cond-false, eq-eqb, ne_eqb}
use Rattle.tx_heap.specs.Heap.{Heap, segments_from}

pub contains_none : {X : Type 0} (x : X) → Contains [] x → ⊥
contains_none x (k, below, at) = omega (arith, below)

pub only_one : {X : Type 0} (x y : X) → Contains (x ∷ []) y → x ≡ y
only_one x y (zero, below, at) = at
only_one x y (suc k, below, at) = absurd (omega (arith, below))

pub contains_first : {X : Type 0} (x : X) (xs : List X) → Contains (x ∷ xs) x
contains_first x xs = (0, omega arith, refl)

pub contains_rest : {X : Type 0} (x y : X) (xs : List X) → Contains xs y → Contains (x ∷ xs) y
contains_rest x y xs (k, below, at) = (suc k, omega (arith, below), at)

pub contains_cases : {X : Type 0} (x y : X) (xs : List X) → Contains (x ∷ xs) y → (x ≡ y) ⊎ Contains xs y
contains_cases x y xs (zero, below, at) = inl at
contains_cases x y xs (suc k, below, at) = inr (k, omega (arith, below), at)

module _ (heap : Heap) where
  pub chain_end : (most number : ℕ) → number ≡ 0 → segments_from heap most number ≡ []
  chain_end zero number none = refl
  chain_end (suc most) number none =
      cond-true (number == 0) [] ((number - 1) ∷ segments_from heap most (get_or heap.links (number - 1) 0)) (eq-eqb number 0 none)

  pub chain_step : (most number : ℕ) → 1 ≤ number → segments_from heap (suc most) number
      ≡ (number - 1) ∷ segments_from heap most (get_or heap.links (number - 1) 0)
  chain_step most number some =
      cond-false (number == 0) [] ((number - 1) ∷ segments_from heap most (get_or heap.links (number - 1) 0)) (ne_eqb number 0 (omega (arith, some)))

  module _ (pool : ℕ) (fall : (segment : ℕ) → segment < pool → get_or heap.links segment 0 ≤ segment) where
    -- the segments of a chain are below the number that it begins with
    pub chain_below : (most number segment : ℕ) → number ≤ pool → Contains (segments_from heap most number) segment → segment < number
    chain_below zero number segment within among = absurd (contains_none segment among)
    chain_below (suc most) number segment within among =
        elim (cases_eq number 0) [
          | inl none ↦ absurd (contains_none segment (subst (λ xs. Contains xs segment) (chain_end (suc most) number none) among))
          | inr some ↦
              let next = get_or heap.links (number - 1) 0 in
              let falls = fall (number - 1) (omega (arith, some, within)) in
              elim (contains_cases (number - 1) segment (segments_from heap most next)
              (subst (λ xs. Contains xs segment) (chain_step most number (omega (arith, some))) among)) [
                | inl here ↦ omega (arith, here, some)
                | inr later ↦ omega (arith, chain_below most next segment (omega (arith, falls, within)) later, falls)
              ]
        ]

    -- more steps than the number find nothing more
    pub chain_long : (most more number : ℕ) → number ≤ most → number ≤ more → number ≤ pool → segments_from heap most number ≡ segments_from heap more number
    chain_long zero more number at_most at_more within = sym (chain_end more number (omega (arith, at_most)))
    chain_long (suc most) zero number at_most at_more within = chain_end (suc most) number (omega (arith, at_more))
    chain_long (suc most) (suc more) number at_most at_more within =
        elim (cases_eq number 0) [
          | inl none ↦ chain_end (suc most) number none ∙ sym (chain_end (suc more) number none)
          | inr some ↦
              let next = get_or heap.links (number - 1) 0 in
              let falls = fall (number - 1) (omega (arith, some, within)) in
              chain_step most number (omega (arith, some))
              ∙ ap (λ rest. (number - 1) ∷ rest) (chain_long most more next (omega (arith, falls, at_most, some)) (omega (arith, falls, at_more, some))
              (omega (arith, falls, within)))
              ∙ sym (chain_step more number (omega (arith, some)))
        ]

-- a heap with the same links has the same chains
pub chain_same : (heap other : Heap) (pool : ℕ) → ((segment : ℕ) → segment < pool → get_or heap.links segment 0 ≤ segment)
    → ((segment : ℕ) → segment < pool → get_or other.links segment 0 ≡ get_or heap.links segment 0)
    → (most number : ℕ) → number ≤ pool → segments_from other most number ≡ segments_from heap most number
chain_same heap other pool fall same zero number within = refl
chain_same heap other pool fall same (suc most) number within =
    elim (cases_eq number 0) [
      | inl none ↦ chain_end other (suc most) number none ∙ sym (chain_end heap (suc most) number none)
      | inr some ↦
          let next = get_or heap.links (number - 1) 0 in
          let below : number - 1 < pool = omega (arith, some, within) in
          chain_step other most number (omega (arith, some))
          ∙ ap (λ n. (number - 1) ∷ segments_from other most n) (same (number - 1) below)
          ∙ ap (λ rest. (number - 1) ∷ rest) (chain_same heap other pool fall same most next (omega (arith, fall (number - 1) below, below)))
          ∙ sym (chain_step heap most number (omega (arith, some)))
    ]
