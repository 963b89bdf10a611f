-- Filters and searches over a range of numbers.
use Rattle.std.proofs.Common.{◌≡◌, ℕ, zero, suc, ◌+◌, ◌<◌, ◌≤◌, Bool, true, false, cond, List, [], ◌∷◌, ◌++◌, None, Some, refl, ap, ◌∙◌, arith}
use Rattle.std.specs.List.{range_with_len, filter, find}
use Rattle.std.proofs.lemmas.Bool.{cond-false}

pub range_with_len-add : (a n m : ℕ) → range_with_len a (n + m) ≡ range_with_len a n ++ range_with_len (a + n) m
range_with_len-add a zero m =
    let same : zero + m ≡ m = omega arith in
    let from : a ≡ a + zero = omega arith in
    ap (range_with_len a) same ∙ ap (λ k. range_with_len k m) from
range_with_len-add a (suc n) m =
    let longer : suc n + m ≡ suc (n + m) = omega arith in
    let from : a + 1 + n ≡ a + suc n = omega arith in
    ap (range_with_len a) longer ∙ ap (λ xs. a ∷ xs) (range_with_len-add (a + 1) n m ∙ ap (λ k. range_with_len (a + 1) n ++ range_with_len k m) from)

module _ (test : ℕ → Bool) where
  abbrev pub NoneFrom : ℕ → ℕ → Type 0
  NoneFrom a n = (k : ℕ) → a ≤ k → k < a + n → test k ≡ false

  pub filter-none : (a n : ℕ) → NoneFrom a n → filter test (range_with_len a n) ≡ []
  filter-none a zero none = refl
  filter-none a (suc n) none =
      cond-false (test a) _ _ (none a (omega arith) (omega arith)) ∙ filter-none (a + 1) n (λ k low high. none k (omega arith) (omega arith))

  pub find-none : (a n : ℕ) → NoneFrom a n → find test (range_with_len a n) ≡ None
  find-none a zero none = refl
  find-none a (suc n) none =
      cond-false (test a) _ _ (none a (omega arith) (omega arith)) ∙ find-none (a + 1) n (λ k low high. none k (omega arith) (omega arith))

pub find-append : {X : Type 0} (test : X → Bool) (xs ys : List X) → find test xs ≡ None → find test (xs ++ ys) ≡ find test ys
find-append test [] ys none = refl
find-append test (x ∷ xs) ys none =
    elim (test x) as (λ b. cond b (Some x) (find test xs) ≡ None → cond b (Some x) (find test (xs ++ ys)) ≡ find test ys) [
      | true ↦ λ (is : Some x ≡ None). cc
      | false ↦ λ is. find-append test xs ys is
    ] none
