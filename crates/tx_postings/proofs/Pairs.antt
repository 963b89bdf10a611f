-- Lists of which every two elements are related: parts of them, and lists that are made of others.
use Rattle.std.proofs.Common.{◌≢◌, ◌++◌, List, [], ◌∷◌, map, sym, ◌∙◌, subst, refl, arith, inl, inr}
use Rattle.std.specs.Prelude.{Contains}
use Rattle.std.specs.List.{All, flat_map}
use Rattle.std.proofs.lemmas.List.{length-append, get_or_append_left, get_or_default}
use Rattle.std.proofs.lemmas.List.Elements.{All-cons, All-head, All-tail, All-contains, Contains-append_right}
use Rattle.tx_heap.specs.Pairwise.{Pairwise}
use Rattle.tx_heap.proofs.lemmas.Lanes.{contains_none, contains_first, contains_rest, contains_cases}
use Rattle.tx_buckets.proofs.lemmas.Lists.{contains_map, contains_flat}

-- ---- parts of a list
module _ {X : Type 0} (R : X → X → Type 0) where
  pub pairs_front : (front back : List X) → Pairwise R (front ++ back) → Pairwise R front
  pairs_front [] back pairs = tt
  pairs_front (x ∷ front) back pairs = (
    λ k d below. subst (R x) (get_or_append_left front back d k below) (pairs.0 k d (omega (arith, below, length-append front back))),
    pairs_front front back pairs.1,
  )

  pub pairs_back : (front back : List X) → Pairwise R (front ++ back) → Pairwise R back
  pairs_back [] back pairs = pairs
  pairs_back (x ∷ front) back pairs = pairs_back front back pairs.1

  pub pairs_across : (front back : List X) (x y : X) → Pairwise R (front ++ back) → Contains front x → Contains back y → R x y
  pairs_across [] back x y pairs there also = absurd (contains_none x there)
  pairs_across (z ∷ front) back x y pairs there also =
      elim (contains_cases z x front there) [
        | inl here ↦ subst (λ w. R w y) here (All-contains (R z) (front ++ back) y pairs.0 (Contains-append_right front back y also))
        | inr later ↦ pairs_across front back x y pairs.1 later also
      ]

  -- two lists one after the other
  all_joined : (P : X → Type 0) (front back : List X) → All P front → All P back → All P (front ++ back)
  all_joined P [] back first rest = rest
  all_joined P (x ∷ front) back first rest =
      All-cons P x (front ++ back) (All-head P x front first) (all_joined P front back (All-tail P x front first) rest)

  all_from : (P : X → Type 0) (xs : List X) → ((x : X) → Contains xs x → P x) → All P xs
  all_from P xs each k d below = each _ (k, below, get_or_default xs k _ d below)

  pub pairs_joined : (front back : List X) → Pairwise R front → Pairwise R back
      → ((x y : X) → Contains front x → Contains back y → R x y) → Pairwise R (front ++ back)
  pairs_joined [] back first rest across = rest
  pairs_joined (x ∷ front) back first rest across = (
    all_joined (R x) front back first.0 (all_from (R x) back (λ y among. across x y (contains_first x front) among)),
    pairs_joined front back first.1 rest (λ z y there among. across z y (contains_rest x z front there) among),
  )

-- ---- lists that are made of others
module _ {K X : Type 0} (R : X → X → Type 0) (f : K → List X) where
  -- one of the lists
  pub pairs_within : (ks : List K) (k : K) → Pairwise R (flat_map f ks) → Contains ks k → Pairwise R (f k)
  pairs_within [] k pairs among = absurd (contains_none k among)
  pairs_within (first ∷ ks) k pairs among =
      elim (contains_cases first k ks among) [
        | inl here ↦ subst (λ n. Pairwise R (f n)) here (pairs_front R (f first) (flat_map f ks) pairs)
        | inr later ↦ pairs_within ks k (pairs_back R (f first) (flat_map f ks) pairs) later
      ]

  -- two of them
  pub pairs_between : ((x y : X) → R x y → R y x) → (ks : List K) (j k : K) (x y : X) → Pairwise R (flat_map f ks)
      → Contains ks j → Contains ks k → j ≢ k → Contains (f j) x → Contains (f k) y → R x y
  pairs_between turned [] j k x y pairs one other apart in_one in_other = absurd (contains_none j one)
  pairs_between turned (first ∷ ks) j k x y pairs one other apart in_one in_other =
      elim (contains_cases first j ks one) [
        | inl here ↦
            elim (contains_cases first k ks other) [
              | inl same ↦ absurd (apart (sym here ∙ same))
              | inr later ↦
                  pairs_across R (f first) (flat_map f ks) x y pairs (subst (λ n. Contains (f n) x) (sym here) in_one)
                  (contains_flat f ks k y later in_other)
            ]
        | inr later ↦
            elim (contains_cases first k ks other) [
              | inl same ↦
                  turned y x
                  (pairs_across R (f first) (flat_map f ks) y x pairs (subst (λ n. Contains (f n) y) (sym same) in_other)
                  (contains_flat f ks j x later in_one))
              | inr further ↦
                  pairs_between turned ks j k x y (pairs_back R (f first) (flat_map f ks) pairs) later further apart in_one in_other
            ]
      ]

-- a list whose images are apart
pub apart_before : {X Y : Type 0} (f : X → Y) (xs : List X) → Pairwise ◌≢◌ (map f xs) → Pairwise ◌≢◌ xs
apart_before f [] apart = tt
apart_before f (x ∷ xs) apart = (
  λ k d below same.
      All-contains (λ y. f x ≢ y) (map f xs) (f x) apart.0
      (contains_map f xs x (k, below, get_or_default xs k x d below ∙ sym same)) refl,
  apart_before f xs apart.1,
)
