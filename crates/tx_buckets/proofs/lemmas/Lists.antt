-- Lists that are made of others, and lists with one element more.
use Rattle.std.proofs.Common.{◌≡◌, ◌≢◌, ℕ, zero, suc, ◌+◌, ◌<◌, ◌≤◌, ◌⊎◌, ◌↔◌, List, [], ◌∷◌, ◌++◌, length, map, refl, sym, ◌∙◌, ap, subst, arith, inl, inr}
use Rattle.std.specs.Prelude.{Contains}
use Rattle.std.specs.List.{All, flat_map, range_with_len}
use Rattle.std.proofs.lemmas.Bool.{cases_eq}
use Rattle.std.proofs.lemmas.List.{append_assoc, length-append, length-map, get_or-map, map-append}
use Rattle.std.proofs.lemmas.List.FromFn.{length-range_with_len, get_or-range_with_len}
use Rattle.std.proofs.lemmas.List.Elements.{All-cons, All-head, All-tail, All-contains, Contains-append_left, Contains-append_right, Contains-append_cases}
use Rattle.tx_heap.specs.Pairwise.{Pairwise}
use Rattle.tx_heap.proofs.lemmas.Lanes.{contains_none, contains_first, contains_rest, contains_cases}
use Rattle.tx_heap.proofs.lemmas.FreshSegment.{flat_map_same}

-- ---- what is in a list that is made of others
pub contains_map : {X Y : Type 0} (f : X → Y) (xs : List X) (x : X) → Contains xs x → Contains (map f xs) (f x)
contains_map f xs x (k, below, at) = (k, omega (arith, below, length-map xs f), get_or-map f xs k x (f x) below ∙ ap f at)

pub mapped_from : {X Y : Type 0} (f : X → Y) (xs : List X) (y : Y) → Contains (map f xs) y → (x : X) × Contains xs x × (f x ≡ y)
mapped_from f [] y among = absurd (contains_none y among)
mapped_from f (x ∷ xs) y among =
    elim (contains_cases (f x) y (map f xs) among) [
      | inl here ↦ (x, contains_first x xs, here)
      | inr later ↦ let (z, is, same) = mapped_from f xs y later in (z, contains_rest x z xs is, same)
    ]

pub contains_flat : {X Y : Type 0} (f : X → List Y) (xs : List X) (x : X) (y : Y) → Contains xs x → Contains (f x) y → Contains (flat_map f xs) y
contains_flat f [] x y among inside = absurd (contains_none x among)
contains_flat f (first ∷ xs) x y among inside =
    elim (contains_cases first x xs among) [
      | inl here ↦ Contains-append_left (f first) (flat_map f xs) y (subst (λ z. Contains (f z) y) (sym here) inside)
      | inr later ↦ Contains-append_right (f first) (flat_map f xs) y (contains_flat f xs x y later inside)
    ]

pub flat_from : {X Y : Type 0} (f : X → List Y) (xs : List X) (y : Y) → Contains (flat_map f xs) y → (x : X) × Contains xs x × Contains (f x) y
flat_from f [] y among = absurd (contains_none y among)
flat_from f (first ∷ xs) y among =
    elim (Contains-append_cases (f first) (flat_map f xs) y among) [
      | inl here ↦ (first, contains_first first xs, here)
      | inr later ↦ let (x, is, inside) = flat_from f xs y later in (x, contains_rest first x xs is, inside)
    ]

pub contains_range : (count k : ℕ) → k < count → Contains (range_with_len 0 count) k
contains_range count k below = (k, omega (arith, below, length-range_with_len 0 count), get_or-range_with_len 0 count k k below ∙ omega arith)

pub range_below : (count k : ℕ) → Contains (range_with_len 0 count) k → k < count
range_below count k (i, below, at) =
    let inside : i < count = omega (arith, below, length-range_with_len 0 count) in
    omega (arith, inside, at, get_or-range_with_len 0 count i k inside)

-- a map by what agrees
pub map_same : {X Y : Type 0} (f g : X → Y) (xs : List X) → ((x : X) → Contains xs x → f x ≡ g x) → map f xs ≡ map g xs
map_same f g [] same = refl
map_same f g (x ∷ xs) same =
    ap (λ y. y ∷ map f xs) (same x (contains_first x xs)) ∙ ap (λ ys. g x ∷ ys) (map_same f g xs (λ y among. same y (contains_rest x y xs among)))

-- a map that changes nothing
pub map_kept : {X : Type 0} (f : X → X) (xs : List X) → ((x : X) → Contains xs x → f x ≡ x) → map f xs ≡ xs
map_kept f [] kept = refl
map_kept f (x ∷ xs) kept =
    ap (λ y. y ∷ map f xs) (kept x (contains_first x xs)) ∙ ap (λ ys. x ∷ ys) (map_kept f xs (λ y among. kept y (contains_rest x y xs among)))

pub map_map : {X Y Z : Type 0} (f : X → Y) (g : Y → Z) (xs : List X) → map g (map f xs) ≡ map (λ x. g (f x)) xs
map_map f g [] = refl
map_map f g (x ∷ xs) = ap (λ ys. g (f x) ∷ ys) (map_map f g xs)

-- a map of a flat map over numbers
pub map_flat : {X Y : Type 0} (h : X → Y) (f : ℕ → List X) (ks : List ℕ) → flat_map (λ k. map h (f k)) ks ≡ map h (flat_map f ks)
map_flat h f [] = refl
map_flat h f (k ∷ ks) = ap (λ rest. map h (f k) ++ rest) (map_flat h f ks) ∙ sym (map-append h (f k) (flat_map f ks))

-- a list around one of its elements
pub around : {X : Type 0} (xs : List X) (x : X) → Contains xs x → (front : List X) × (back : List X) × (xs ≡ front ++ x ∷ back)
around [] x among = absurd (contains_none x among)
around (y ∷ xs) x among =
    elim (contains_cases y x xs among) [
      | inl here ↦ ([], xs, ap (λ z. z ∷ xs) here)
      | inr later ↦ let (front, back, is) = around xs x later in (y ∷ front, back, ap (λ zs. y ∷ zs) is)
    ]

-- ---- one element in place of another
module _ {X : Type 0} (P : X → Type 0) (back : List X) (x y : X) (then : P x → P y) where
  pub All_swap : (front : List X) → All P (front ++ x ∷ back) → All P (front ++ y ∷ back)
  All_swap [] all = All-cons P y back (then (All-head P x back all)) (All-tail P x back all)
  All_swap (z ∷ front) all =
      All-cons P z (front ++ y ∷ back) (All-head P z (front ++ x ∷ back) all) (All_swap front (All-tail P z (front ++ x ∷ back) all))

module _ {X : Type 0} (R : X → X → Type 0) (back : List X) (x y : X) where
  pub Pairwise_swap : (front : List X) → ((z : X) → R x z → R y z) → ((z : X) → R z x → R z y) → Pairwise R (front ++ x ∷ back) → Pairwise R (front ++ y ∷ back)
  Pairwise_swap [] left right pairs = (λ k d below. left _ (pairs.0 k d below), pairs.1)
  Pairwise_swap (z ∷ front) left right pairs = (All_swap (R z) back x y (right z) front pairs.0, Pairwise_swap front left right pairs.1)

-- ---- relations of two elements that may be turned round
module _ {X : Type 0} (R : X → X → Type 0) (turned : (x y : X) → R x y → R y x) where
  -- the elements beside one
  pub Pairwise_beside : (front back : List X) (x : X) → Pairwise R (front ++ x ∷ back) → All (R x) (front ++ back)
  Pairwise_beside [] back x pairs = pairs.0
  Pairwise_beside (y ∷ front) back x pairs =
      All-cons (R x) y (front ++ back)
      (turned y x (All-contains (R y) (front ++ x ∷ back) x pairs.0 (Contains-append_right front (x ∷ back) x (contains_first x back))))
      (Pairwise_beside front back x pairs.1)

  -- two elements are one, or are related
  pub Pairwise_members : (xs : List X) (x y : X) → Pairwise R xs → Contains xs x → Contains xs y → (x ≡ y) ⊎ R x y
  Pairwise_members [] x y pairs among other = absurd (contains_none x among)
  Pairwise_members (z ∷ xs) x y pairs among other =
      elim (contains_cases z x xs among) [
        | inl here ↦
            elim (contains_cases z y xs other) [
              | inl same ↦ inl (sym here ∙ same)
              | inr later ↦ inr (subst (λ w. R w y) here (All-contains (R z) xs y pairs.0 later))
            ]
        | inr later ↦
            elim (contains_cases z y xs other) [
              | inl same ↦ inr (subst (R x) same (turned z x (All-contains (R z) xs x pairs.0 later)))
              | inr further ↦ Pairwise_members xs x y pairs.1 later further
            ]
      ]

-- ---- one element more
-- a list with one element more, somewhere
pub record OneMore {X : Type 0} (x : X) (old new : List X) : Type 0 where
  pub front : List X
  pub back : List X
  pub was : old ≡ front ++ back
  pub is : new ≡ front ++ x ∷ back

all_put : {X : Type 0} (P : X → Type 0) (front back : List X) (x : X) → All P (front ++ back) → P x → All P (front ++ x ∷ back)
all_put P [] back x all here = All-cons P x back here all
all_put P (y ∷ front) back x all here =
    All-cons P y (front ++ x ∷ back) (All-head P y (front ++ back) all) (all_put P front back x (All-tail P y (front ++ back) all) here)

pairwise_put : {X : Type 0} (R : X → X → Type 0) → ((x y : X) → R x y → R y x) → (front back : List X) (x : X) → Pairwise R (front ++ back)
    → All (R x) (front ++ back) → Pairwise R (front ++ x ∷ back)
pairwise_put R turned [] back x pairs all = (all, pairs)
pairwise_put R turned (y ∷ front) back x pairs all = (
  all_put (R y) front back x pairs.0 (turned x y (All-head (R x) y (front ++ back) all)),
  pairwise_put R turned front back x pairs.1
      (All-tail (R x) y (front ++ back) all),
)

module _ {X : Type 0} {x : X} {old new : List X} (more : OneMore x old new) where
  pub more_all : (P : X → Type 0) → All P old → P x → All P new
  more_all P all here = subst (All P) (sym more.is) (all_put P more.front more.back x (subst (All P) more.was all) here)

  pub more_pairwise : (R : X → X → Type 0) → ((y z : X) → R y z → R z y) → Pairwise R old → All (R x) old → Pairwise R new
  more_pairwise R turned pairs all =
      subst (Pairwise R) (sym more.is) (pairwise_put R turned more.front more.back x (subst (Pairwise R) more.was pairs) (subst (All (R x)) more.was all))

  pub more_length : length new ≡ length old + 1
  more_length =
      omega (
        arith,
        ap (λ (xs : List X). length xs) more.is,
        ap (λ (xs : List X). length xs) more.was,
        length-append more.front
            (x ∷ more.back),
        length-append more.front more.back,
      )

  -- its elements are those before, and that one
  pub more_contains : (y : X) → Contains new y ↔ (x ≡ y) ⊎ Contains old y
  more_contains y = (to, from)
    where
      to : Contains new y → (x ≡ y) ⊎ Contains old y
      to among =
          elim (Contains-append_cases more.front (x ∷ more.back) y (subst (λ xs. Contains xs y) more.is among)) [
            | inl first ↦ inr (subst (λ xs. Contains xs y) (sym more.was) (Contains-append_left more.front more.back y first))
            | inr later ↦
                elim (contains_cases x y more.back later) [
                  | inl here ↦ inl here
                  | inr last ↦ inr (subst (λ xs. Contains xs y) (sym more.was) (Contains-append_right more.front more.back y last))
                ]
          ]

      from : (x ≡ y) ⊎ Contains old y → Contains new y
      from (inl here) = subst (λ xs. Contains xs y) (sym more.is)
          (Contains-append_right more.front (x ∷ more.back) y (subst (Contains (x ∷ more.back)) here (contains_first x more.back)))
      from (inr there) =
          subst (λ xs. Contains xs y) (sym more.is)
          (elim (Contains-append_cases more.front more.back y (subst (λ xs. Contains xs y) more.was there)) [
            | inl first ↦ Contains-append_left more.front (x ∷ more.back) y first
            | inr last ↦ Contains-append_right more.front (x ∷ more.back) y (contains_rest x y more.back last)
          ])

-- a flat map over numbers, where one of them has one element more
pub more_flat : {X : Type 0} (f g : ℕ → List X) (x : X) (number first count : ℕ) → first ≤ number → number < first + count → OneMore x (f number) (g number)
    → ((k : ℕ) → first ≤ k → k < first + count → k ≢ number → g k ≡ f k)
    → OneMore x (flat_map f (range_with_len first count)) (flat_map g (range_with_len first count))
more_flat f g x number first zero from below here others = absurd (omega (arith, from, below))
more_flat f g x number first (suc count) from below here others =
    elim (cases_eq first number) [
      | inl same ↦
          let rest = flat_map_same g f (first + 1) count (λ k after before. others k (omega (arith, after)) (omega (arith, before))
          (λ e. omega (arith, e, after, same))) in
          let more = subst (λ n. OneMore x (f n) (g n)) (sym same) here in
          record {
            front = more.front;
            back = more.back ++ flat_map f (range_with_len (first + 1) count);
            was = ap (λ xs. xs ++ flat_map f (range_with_len (first + 1) count)) more.was
                ∙ append_assoc more.front more.back (flat_map f (range_with_len (first + 1) count));
            is =
                ap (λ xs. xs ++ flat_map g (range_with_len (first + 1) count)) more.is
                ∙ ap (λ xs. (more.front ++ x ∷ more.back) ++ xs) rest
                ∙ append_assoc more.front (x ∷ more.back) (flat_map f (range_with_len (first + 1) count));
          }
      | inr other ↦
          let more = more_flat f g x number (first + 1) count (omega (arith, from, other)) (omega (arith, below)) here
          (λ k after before. others k (omega (arith, after)) (omega (arith, before))) in
          record {
            front = f first ++ more.front;
            back = more.back;
            was = ap (λ xs. f first ++ xs) more.was ∙ sym (append_assoc (f first) more.front more.back);
            is =
                ap (λ xs. xs ++ flat_map g (range_with_len (first + 1) count)) (others first (omega arith) (omega arith) other)
                ∙ ap (λ xs. f first ++ xs) more.is
                ∙ sym (append_assoc (f first) more.front (x ∷ more.back));
          }
    ]
