-- What each teller did, as what all did; and tellers that come and go, one at a time.
use Rattle.std.proofs.Common.{◌≡◌, ℕ, zero, suc, ◌+◌, ◌<◌, List, [], ◌∷◌, ◌++◌, length, map, sum, All, slice_index_or, refl, sym, ◌∙◌, ap, ap₂, subst, arith, Bool, true, false, nat_lt, if◌then◌else◌}
use Rattle.std.proofs.lemmas.List.{get_or_append_left, length_push, map-append, length-map}
use Rattle.std.proofs.lemmas.List.Sums.{sum_by-append, sum_by-cons}
use Rattle.tx_model.specs.declared.view.PassView.{PassView}
use Rattle.tx_model.specs.Shares.{Name, joined}
use Rattle.tx_model.specs.Calls.{placed, merged}
use Rattle.bank.specs.declared.tellers.Tally.{Tally}
use Rattle.bank.specs.declared.tellers.Teller.{Teller}
use Rattle.bank.specs.Tellers.{HasServed, HaveServed, orders_in, made_in, share_of, commits_of, tally_of, joined_back}

-- ---- numbers of commits, merged
either_way : (b : Bool) (xs ys : List ℕ) {n : ℕ} → length xs ≡ n → length ys ≡ n → length (if b then xs else ys) ≡ n
either_way true xs ys p q = p
either_way false xs ys p q = q

length_placed : (stamp : ℕ) (stamps : List ℕ) → length (placed stamp stamps) ≡ length stamps + 1
length_placed stamp [] = refl
length_placed stamp (first ∷ stamps) = either_way (nat_lt stamp first) (stamp ∷ first ∷ stamps) (first ∷ placed stamp stamps) (omega arith) (omega
    (arith, length_placed stamp stamps))

pub length_merged : (stamps others : List ℕ) → length (merged stamps others) ≡ length stamps + length others
length_merged stamps [] = omega arith
length_merged stamps (stamp ∷ others) = omega (arith, length_merged (placed stamp stamps) others, length_placed stamp stamps)

-- ---- each teller, and all of them
mapped : {X Y : Type 0} (f : X → Y) (old new : List X) → length new ≡ length old
    → ((i : ℕ) (d : X) → i < length old → f (slice_index_or new i d) ≡ f (slice_index_or old i d)) → map f new ≡ map f old
mapped f [] [] long each = refl
mapped f [] (y ∷ ys) long each = absurd (omega (arith, long))
mapped f (x ∷ xs) [] long each = absurd (omega (arith, long))
mapped f (x ∷ xs) (y ∷ ys) long each = ap₂ ◌∷◌ (each 0 x (omega arith)) (mapped f xs ys (omega (arith, long)) (λ i d below. each (suc i) d (omega
    (arith, below))))

added : {X : Type 0} (f g : X → ℕ) (old new : List X) → length new ≡ length old
    → ((i : ℕ) (d : X) → i < length old → f (slice_index_or new i d) ≡ f (slice_index_or old i d) + g (slice_index_or new i d))
    → sum (map f new) ≡ sum (map f old) + sum (map g new)
added f g [] [] long each = refl
added f g [] (y ∷ ys) long each = absurd (omega (arith, long))
added f g (x ∷ xs) [] long each = absurd (omega (arith, long))
added {X = X} f g (x ∷ xs) (y ∷ ys) long each =
    let rest = added f g xs ys (omega (arith, long)) (λ i d below. each (suc i) d (omega (arith, below))) in
    let first : f y ≡ f x + g y = each 0 x (omega arith) in
    let sums = λ (h : X → ℕ) (z : X) (zs : List X). sum_by-cons (λ (n : ℕ). n) (h z) (map h zs) in
    omega (arith, rest, first, sums f y ys, sums f x xs, sums g y ys)

all_mapped : {X Y : Type 0} (f : X → Y) (F : Y → Type 0) (xs : List X) → ((i : ℕ) (d : X) → i < length xs → F (f (slice_index_or xs i d))) → All F (map f xs)
all_mapped f F [] each k d below = absurd (omega (arith, below))
all_mapped f F (x ∷ xs) each zero d below = each 0 x (omega arith)
all_mapped f F (x ∷ xs) each (suc k) d below = all_mapped f F xs (λ i e inside. each (suc i) e (omega (arith, inside))) k d (omega (arith, below))

mapped_twice : {X Y Z : Type 0} (f : X → Y) (g : Y → Z) (xs : List X) → map g (map f xs) ≡ map (λ x. g (f x)) xs
mapped_twice f g [] = refl
mapped_twice f g (x ∷ xs) = ap (λ rest. g (f x) ∷ rest) (mapped_twice f g xs)

module _ {P : Type 0} (of : P → Type 0) (view : P → PassView) (accounts : ℕ) (opening : List ℕ) (orders : ℕ) where
  pub have_served : (old new : List (Teller P)) → length new ≡ length old
      → ((i : ℕ) (d : Teller P) → i < length old → HasServed of view accounts opening orders (slice_index_or old i d) (slice_index_or new i d))
      → HaveServed of view accounts opening orders old new
  have_served old new long each =
      record {
        ready = λ i d below. (each i d (omega (arith, below, long))).ready;
        shares = mapped (share_of view) old new long (λ i d below. (each i d below).share);
        tallies = record {
          each = length-map new tally_of
              ∙ long;
          counted = all_mapped tally_of (λ (tally : Tally). orders_in tally ≡ orders) new (λ i d below. (each i d (omega
              (arith, below, long))).counted);
        };
        made = added (commits_of view) (λ (teller : Teller P). made_in (tally_of teller)) old new long (λ i d below. (each i d below).made)
            ∙ ap (λ list. sum (map (commits_of view) old) + sum list) (sym (mapped_twice tally_of made_in new));
      }

-- ---- one teller more, and one less
pub joined_back_last : (share : List Name) (others : List (List Name)) (last : List Name)
    → joined_back share (others ++ last ∷ []) ≡ joined_back (joined share last) others
joined_back_last share [] last = refl
joined_back_last share (other ∷ others) last = ap (λ names. joined names other) (joined_back_last share others last)

-- the last of all is joined
pub back_step : {P : Type 0} (f : Teller P → List Name) (share new : List Name) (all rest : List (Teller P)) (last : Teller P)
    → all ≡ rest ++ last ∷ [] → new ≡ joined share (f last)
    → joined_back new (map f rest) ≡ joined_back share (map f all)
back_step f share new all rest last is made =
    ap (λ names. joined_back names (map f rest)) made
    ∙ sym (ap (λ tellers. joined_back share (map f tellers)) is ∙ ap (joined_back share) (map-append f rest (last ∷ []))
    ∙ joined_back_last share (map f rest) (f last))

pub all_but_last : {X : Type 0} (F : X → Type 0) (all rest : List X) (last : X) → all ≡ rest ++ last ∷ [] → All F all → All F rest
all_but_last F all rest last is each k d below =
    subst F (get_or_append_left rest (last ∷ []) d k below) (subst (All F) is each k d (omega (arith, below, length_push rest last)))

-- one more was split off
pub front_step : {P : Type 0} (f : Teller P → List Name) (share new goal : List Name) (old all : List (Teller P)) (last : Teller P)
    → all ≡ old ++ last ∷ [] → joined new (f last) ≡ share
    → joined_back share (map f old) ≡ goal → joined_back new (map f all) ≡ goal
front_step f share new goal old all last is made before =
    ap (λ tellers. joined_back new (map f tellers)) is ∙ ap (joined_back new) (map-append f old (last ∷ [])) ∙ joined_back_last new (map f old) (f last)
    ∙ ap (λ names. joined_back names (map f old)) made ∙ before

pub sum_last : {X : Type 0} (f : X → ℕ) (all rest : List X) (last : X) → all ≡ rest ++ last ∷ [] → sum (map f all) ≡ sum (map f rest) + f last
sum_last f all rest last is =
    ap (λ list. sum (map f list)) is ∙ ap sum (map-append f rest (last ∷ [])) ∙ sum_by-append (λ (n : ℕ). n) (map f rest) (f last ∷ []) ∙ omega arith
