-- The rising list of a set of keys: it is what a sort and then `dedup` leave.
use Rattle.std.proofs.Common.{◌≡◌, ℕ, ◌==◌, ◌&&◌, ◌||◌, Bool, true, false, cond, List, [], ◌∷◌, ◌++◌, refl, sym, ap, ◌∙◌, subst, arith, inl, inr, if◌then◌else◌, Ordering}
use Rattle.std.specs.declared.cmp.Ordering.TheVariants.{Less, Equal, Greater}
use Rattle.std.specs.Ordering.{is_lt, is_eq, nat_cmp, ordering_then, ordering_reverse, eq_by_cmp}
use Rattle.std.specs.Cmp.{IsTotalOrder, IsEquivalence}
use Rattle.std.proofs.lemmas.Map.Views.{Contains-from_any, list_any-from_Contains}
use Rattle.std.specs.List.{Contains, list_any, dedup, dedup_from, AllByRecursion}
use Rattle.std.specs.List.Sorted.{IsStrictlySortedBy, IsPermutation, IsSorted}
use Rattle.std.proofs.lemmas.Bool.{true≢false, false≢true, cases_Bool}
use Rattle.std.proofs.lemmas.Bool.Decides.{nat_tests}
use Rattle.std.proofs.lemmas.Cmp.{nat_cmp_total, on_total, then_total, tied_itself, eq_by_cmp_equiv}
use Rattle.std.proofs.lemmas.List.Folds.{list_any-append}
use Rattle.std.proofs.lemmas.List.Kept.{IsStrictlySortedBy-dedup}
use Rattle.std.proofs.lemmas.List.Sorted.{list_any-IsPermutation}
use Rattle.mail_words.specs.Key.{KeyNumbers, key_cmp, same_key}
use Rattle.mail_words.specs.Words.{with_key, rising}
use Rattle.mail_words.proofs.Keys.{same_key-is}

or_swap : (a b c : Bool) → (a || (b || c)) ≡ (b || (a || c))
or_swap true true c = refl
or_swap true false c = refl
or_swap false b c = refl

or_twice : (a b : Bool) → (a || b) ≡ (a || (a || b))
or_twice true b = refl
or_twice false b = refl

all_from : {K : Type 0} (P Q : K → Type 0) → ((k : K) → P k → Q k) → (ks : List K) → AllByRecursion P ks → AllByRecursion Q ks
all_from P Q each [] all = tt
all_from P Q each (k ∷ ks) all = (each k all.0, all_from P Q each ks all.1)

-- no element that passes
none_any : {K : Type 0} (p : K → Bool) (ks : List K) → AllByRecursion (λ k. p k ≡ false) ks → list_any p ks ≡ false
none_any p [] all = refl
none_any p (k ∷ ks) all = ap (λ b. b || list_any p ks) all.0 ∙ none_any p ks all.1

module _ {K : Type 0} (R : K → K → Ordering) where
  abbrev same : K → K → Bool
  same x y = is_eq (R x y)

  -- ---- a key put into a rising list

  abbrev put : K → List K → List K
  put key [] = key ∷ []
  put key (other ∷ keys) =
      if is_lt (R key other) then key ∷ other ∷ keys
      else (if same key other then other ∷ keys else other ∷ put key keys)

  put-less : (key other : K) (keys : List K) → R key other ≡ Less → put key (other ∷ keys) ≡ key ∷ other ∷ keys
  put-less key other keys is = ap (λ t. cond (is_lt t) (key ∷ other ∷ keys) (cond (is_eq t) (other ∷ keys) (other ∷ put key keys))) is

  put-equal : (key other : K) (keys : List K) → R key other ≡ Equal → put key (other ∷ keys) ≡ other ∷ keys
  put-equal key other keys is = ap (λ t. cond (is_lt t) (key ∷ other ∷ keys) (cond (is_eq t) (other ∷ keys) (other ∷ put key keys))) is

  put-greater : (key other : K) (keys : List K) → R key other ≡ Greater → put key (other ∷ keys) ≡ other ∷ put key keys
  put-greater key other keys is = ap (λ t. cond (is_lt t) (key ∷ other ∷ keys) (cond (is_eq t) (other ∷ keys) (other ∷ put key keys))) is

  abbrev all_put_in : List K → List K
  all_put_in [] = []
  all_put_in (key ∷ keys) = put key (all_put_in keys)

  -- which of the three an answer is
  three : {G : Type 0} (x y : K) → (R x y ≡ Less → G) → (R x y ≡ Equal → G) → (R x y ≡ Greater → G) → G
  three {G} x y less equal greater =
      elim (R x y) as (λ t. (t ≡ Less → G) → (t ≡ Equal → G) → (t ≡ Greater → G) → G) [
        | Less ↦ λ l _ _. l refl
        | Equal ↦ λ _ e _. e refl
        | Greater ↦ λ _ _ g. g refl
      ] less equal greater

module _ {K : Type 0} (R : K → K → Ordering) (o : IsTotalOrder R) (exact : (x y : K) → R x y ≡ Equal → x ≡ y) where
  itself : (x : K) → same R x x ≡ true
  itself x = ap is_eq (tied_itself o x)

  turned : (x y : K) → R x y ≡ Greater → R y x ≡ Less
  turned x y is = o.antisymm y x ∙ ap ordering_reverse is

  all_put : (P : K → Type 0) (key : K) (keys : List K) → P key → AllByRecursion P keys → AllByRecursion P (put R key keys)
  all_put P key [] here all = (here, tt)
  all_put P key (other ∷ keys) here all =
      three R key other
      (λ is. subst (AllByRecursion P) (sym (put-less R key other keys is)) (here, all))
      (λ is. subst (AllByRecursion P) (sym (put-equal R key other keys is)) all)
      (λ is. subst (AllByRecursion P) (sym (put-greater R key other keys is)) (all.0, all_put P key keys here all.1))

  put-sorted : (key : K) (keys : List K) → IsStrictlySortedBy R keys → IsStrictlySortedBy R (put R key keys)
  unfolding IsStrictlySortedBy
  put-sorted key [] sorted = (tt, tt)
  put-sorted key (other ∷ keys) sorted =
      three R key other
      (λ is. subst (IsStrictlySortedBy R) (sym (put-less R key other keys is))
      ((is, all_from (λ k. R other k ≡ Less) (λ k. R key k ≡ Less) (λ k. o.trans key other k is) keys sorted.0), sorted))
      (λ is. subst (IsStrictlySortedBy R) (sym (put-equal R key other keys is)) sorted)
      (λ is. subst (IsStrictlySortedBy R) (sym (put-greater R key other keys is))
      (all_put (λ k. R other k ≡ Less) key keys (turned key other is) sorted.0, put-sorted key keys sorted.1))

  any-put : (q key : K) (keys : List K) → list_any (same R q) (put R key keys) ≡ (same R q key || list_any (same R q) keys)
  any-put q key [] = refl
  any-put q key (other ∷ keys) =
      three R key other
      (λ is. ap (list_any (same R q)) (put-less R key other keys is))
      (λ is. ap (list_any (same R q)) (put-equal R key other keys is)
      ∙ or_twice (same R q other) (list_any (same R q) keys)
      ∙ ap (λ k. same R q k || (same R q other || list_any (same R q) keys)) (sym (exact key other is)))
      (λ is. ap (list_any (same R q)) (put-greater R key other keys is)
      ∙ ap (λ b. same R q other || b) (any-put q key keys)
      ∙ or_swap (same R q other) (same R q key) (list_any (same R q) keys))

  all_put_in-sorted : (keys : List K) → IsStrictlySortedBy R (all_put_in R keys)
  unfolding IsStrictlySortedBy
  all_put_in-sorted [] = tt
  all_put_in-sorted (key ∷ keys) = put-sorted key (all_put_in R keys) (all_put_in-sorted keys)

  any-all_put_in : (q : K) (keys : List K) → list_any (same R q) (all_put_in R keys) ≡ list_any (same R q) keys
  any-all_put_in q [] = refl
  any-all_put_in q (key ∷ keys) = any-put q key (all_put_in R keys) ∙ ap (λ b. same R q key || b) (any-all_put_in q keys)

  -- ---- rising lists of the same R keys are equal

  apart : (q x : K) → R q x ≡ Less → same R q x ≡ false
  apart q x is = ap is_eq is

  below_all : (x : K) (keys : List K) → AllByRecursion (λ k. R x k ≡ Less) keys → list_any (same R x) keys ≡ false
  below_all x keys all = none_any (same R x) keys (all_from (λ k. R x k ≡ Less) (λ k. same R x k ≡ false) (apart x) keys all)

  first_same : (x y : K) (xs ys : List K) → IsStrictlySortedBy R (y ∷ ys)
      → list_any (same R x) (x ∷ xs) ≡ list_any (same R x) (y ∷ ys) → R x y ≡ Less → ⊥
  unfolding IsStrictlySortedBy
  first_same x y xs ys sorted members is =
      let there : list_any (same R x) (x ∷ xs) ≡ true = ap (λ b. b || list_any (same R x) xs) (itself x) in
      let above = all_from (λ k. R y k ≡ Less) (λ k. R x k ≡ Less) (λ k. o.trans x y k is) ys sorted.0 in
      let absent : list_any (same R x) (y ∷ ys) ≡ false = ap (λ b. b || list_any (same R x) ys) (apart x y is) ∙ below_all x ys above in
      true≢false (sym there ∙ members ∙ absent)

  skipped : (q x : K) (xs : List K) → same R q x ≡ false → list_any (same R q) (x ∷ xs) ≡ list_any (same R q) xs
  skipped q x xs is = ap (λ b. b || list_any (same R q) xs) is

  rest_same : (q x y : K) (xs ys : List K) → x ≡ y → IsStrictlySortedBy R (x ∷ xs) → IsStrictlySortedBy R (y ∷ ys)
      → list_any (same R q) (x ∷ xs) ≡ list_any (same R q) (y ∷ ys) → list_any (same R q) xs ≡ list_any (same R q) ys
  unfolding IsStrictlySortedBy
  rest_same q x y xs ys head sorted_x sorted_y members =
      let other : same R q x ≡ false → list_any (same R q) xs ≡ list_any (same R q) ys =
      λ not_x. sym (skipped q x xs not_x) ∙ members ∙ skipped q y ys (ap (same R q) (sym head) ∙ not_x) in
      three R q x
      (λ is. other (ap is_eq is))
      (λ is.
      let is_x : q ≡ x = exact q x is in
      ap (λ k. list_any (same R k) xs) is_x ∙ below_all x xs sorted_x.0 ∙ sym (below_all y ys sorted_y.0)
      ∙ ap (λ k. list_any (same R k) ys) (sym (is_x ∙ head)))
      (λ is. other (ap is_eq is))

  unique : (xs ys : List K) → IsStrictlySortedBy R xs → IsStrictlySortedBy R ys → ((q : K) → list_any (same R q) xs ≡ list_any (same R q) ys) → xs ≡ ys
  unfolding IsStrictlySortedBy
  unique [] [] sorted_x sorted_y members = refl
  unique [] (y ∷ ys) sorted_x sorted_y members = absurd (false≢true (members y ∙ ap (λ b. b || list_any (same R y) ys) (itself y)))
  unique (x ∷ xs) [] sorted_x sorted_y members = absurd (false≢true (sym (members x) ∙ ap (λ b. b || list_any (same R x) xs) (itself x)))
  unique (x ∷ xs) (y ∷ ys) sorted_x sorted_y members =
      let head : x ≡ y = three R x y
      (λ is. absurd (first_same x y xs ys sorted_y (members x) is))
      (λ is. exact x y is)
      (λ is. absurd (first_same y x ys xs sorted_x (sym (members y)) (turned x y is))) in
      let rest : (q : K) → list_any (same R q) xs ≡ list_any (same R q) ys = λ q. rest_same q x y xs ys head sorted_x sorted_y (members q) in
      ap (λ k. k ∷ xs) head ∙ ap (λ ks. y ∷ ks) (unique xs ys sorted_x.1 sorted_y.1 rest)

  -- ---- `dedup`

  any-dedup_from : (E : K → K → Bool) → ((x y : K) → E x y ≡ true → x ≡ y) → (q k : K) (keys : List K)
      → list_any (same R q) (dedup_from E k keys) ≡ (same R q k || list_any (same R q) keys)
  any-dedup_from E is_same q k [] = refl
  any-dedup_from E is_same q k (x ∷ keys) =
      elim (cases_Bool (E x k)) [
        | inl is ↦
            ap (λ b. list_any (same R q) (cond b (dedup_from E k keys) (k ∷ dedup_from E x keys))) is
            ∙ any-dedup_from E is_same q k keys
            ∙ or_twice (same R q k) (list_any (same R q) keys)
            ∙ ap (λ y. same R q k || (same R q y || list_any (same R q) keys)) (sym (is_same x k is))
        | inr differs ↦
            ap (λ b. list_any (same R q) (cond b (dedup_from E k keys) (k ∷ dedup_from E x keys))) differs
            ∙ ap (λ b. same R q k || b) (any-dedup_from E is_same q x keys)
      ]

  any-dedup : (E : K → K → Bool) → ((x y : K) → E x y ≡ true → x ≡ y) → (q : K) (keys : List K) → list_any (same R q) (dedup E keys) ≡ list_any (same R q) keys
  any-dedup E is_same q [] = refl
  any-dedup E is_same q (k ∷ keys) = any-dedup_from E is_same q k keys

  sorted_dedup : (E : K → K → Bool) → ((x y : K) → E x y ≡ eq_by_cmp R x y) → ((x y : K) → E x y ≡ true → x ≡ y)
      → (keys sorted : List K) → IsPermutation keys sorted → IsSorted R sorted → dedup E sorted ≡ all_put_in R keys
  sorted_dedup E ties is_same keys sorted moved in_order =
      unique (dedup E sorted) (all_put_in R keys) (IsStrictlySortedBy-dedup o ties sorted in_order) (all_put_in-sorted keys)
      (λ q. any-dedup E is_same q sorted ∙ sym (list_any-IsPermutation (same R q) keys sorted moved) ∙ sym (any-all_put_in q keys))

-- ---- keys

nat_ties : (a b : ℕ) → (a == b) ≡ is_eq (nat_cmp a b)
nat_ties a b = grind (arith, nat_tests)

is_eq-then : (a b : Ordering) → is_eq (ordering_then a b) ≡ (is_eq a && is_eq b)
is_eq-then Less b = refl
is_eq-then Equal b = refl
is_eq-then Greater b = refl

four_ties : (a b c d : Ordering) (s t u v : Bool) → s ≡ is_eq a → t ≡ is_eq b → u ≡ is_eq c → v ≡ is_eq d
    → (s && (t && (u && v))) ≡ is_eq (ordering_then a (ordering_then b (ordering_then c d)))
four_ties a b c d s t u v is_s is_t is_u is_v =
    let first = is_eq-then a (ordering_then b (ordering_then c d)) in
    let second = is_eq-then b (ordering_then c d) in
    let third = is_eq-then c d in
    cc

pub key_ties : (a b : KeyNumbers) → same_key a b ≡ eq_by_cmp key_cmp a b
key_ties a b =
    four_ties (nat_cmp a.k0 b.k0) (nat_cmp a.k1 b.k1) (nat_cmp a.k2 b.k2) (nat_cmp a.k3 b.k3) _ _ _ _ (nat_ties a.k0 b.k0) (nat_ties a.k1 b.k1)
    (nat_ties a.k2 b.k2) (nat_ties a.k3 b.k3)

pub key_total : IsTotalOrder key_cmp
key_total =
    then_total (on_total (λ (k : KeyNumbers). k.k0) nat_cmp_total)
    (then_total (on_total (λ (k : KeyNumbers). k.k1) nat_cmp_total)
    (then_total (on_total (λ (k : KeyNumbers). k.k2) nat_cmp_total) (on_total (λ (k : KeyNumbers). k.k3) nat_cmp_total)))

pub key_exact : (a b : KeyNumbers) → key_cmp a b ≡ Equal → a ≡ b
key_exact a b tied = same_key-is a b (key_ties a b ∙ ap is_eq tied)

with_key-is : (key : KeyNumbers) (keys : List KeyNumbers) → with_key key keys ≡ put key_cmp key keys
with_key-is key [] = refl
with_key-is key (other ∷ keys) =
    ap (λ ks. if is_lt (key_cmp key other) then key ∷ other ∷ keys else (if is_eq (key_cmp key other) then other ∷ keys else other ∷ ks)) (with_key-is key keys)

rising-is : (keys : List KeyNumbers) → rising keys ≡ all_put_in key_cmp keys
rising-is [] = refl
rising-is (key ∷ keys) = with_key-is key (rising keys) ∙ ap (put key_cmp key) (rising-is keys)

pub rising-sorted_dedup : (keys sorted : List KeyNumbers) → IsPermutation keys sorted → IsSorted key_cmp sorted → dedup same_key sorted ≡ rising keys
rising-sorted_dedup keys sorted moved in_order =
    sorted_dedup key_cmp key_total key_exact same_key key_ties same_key-is keys sorted moved in_order ∙ sym (rising-is keys)

pub rising-strictly : (keys : List KeyNumbers) → IsStrictlySortedBy key_cmp (rising keys)
rising-strictly keys = subst (IsStrictlySortedBy key_cmp) (sym (rising-is keys)) (all_put_in-sorted key_cmp key_total key_exact keys)

equivalent : IsEquivalence (eq_by_cmp key_cmp)
equivalent = eq_by_cmp_equiv key_total

is_same : (a b : KeyNumbers) → eq_by_cmp key_cmp a b ≡ true → a ≡ b
is_same a b same = same_key-is a b (key_ties a b ∙ same)

any-rising : (key : KeyNumbers) (keys : List KeyNumbers) → list_any (eq_by_cmp key_cmp key) (rising keys) ≡ list_any (eq_by_cmp key_cmp key) keys
any-rising key keys =
    ap (list_any (eq_by_cmp key_cmp key)) (rising-is keys) ∙ any-all_put_in key_cmp key_total key_exact key keys

pub rising-only : (keys : List KeyNumbers) (key : KeyNumbers) → Contains (rising keys) key → Contains keys key
rising-only keys key there =
    Contains-from_any is_same key keys (sym (any-rising key keys) ∙ list_any-from_Contains equivalent key (rising keys) there)

pub rising-has : (keys : List KeyNumbers) (key : KeyNumbers) → Contains keys key → Contains (rising keys) key
rising-has keys key there =
    Contains-from_any is_same key (rising keys) (any-rising key keys ∙ list_any-from_Contains equivalent key keys there)

-- ---- doubles don't matter

-- a list is known by its members
rising-by : (keys others : List KeyNumbers) → ((key : KeyNumbers) → list_any (eq_by_cmp key_cmp key) keys ≡ list_any (eq_by_cmp key_cmp key) others)
    → rising keys ≡ rising others
rising-by keys others alike =
    unique key_cmp key_total key_exact (rising keys) (rising others) (rising-strictly keys) (rising-strictly others)
    (λ key. any-rising key keys ∙ alike key ∙ sym (any-rising key others))

pub rising-twice : (keys : List KeyNumbers) → rising (rising keys) ≡ rising keys
rising-twice keys = rising-by (rising keys) keys (λ key. any-rising key keys)

pub rising-more : (keys others : List KeyNumbers) (key : KeyNumbers) → rising keys ≡ rising others → rising (keys ++ key ∷ []) ≡ rising (others ++ key ∷ [])
rising-more keys others key alike =
    rising-by (keys ++ key ∷ []) (others ++ key ∷ [])
    (λ q.
    let test = eq_by_cmp key_cmp q in
    let members : list_any test keys ≡ list_any test others = sym (any-rising q keys) ∙ ap (list_any test) alike ∙ any-rising q others in
    list_any-append test keys (key ∷ []) ∙ ap (λ b. b || list_any test (key ∷ [])) members ∙ sym (list_any-append test others (key ∷ [])))
