-- Lists of numbers that rise, and what is in them.
use Rattle.std.proofs.Common.{◌≡◌, ℕ, ◌+◌, ◌<◌, ◌≤◌, ◌==◌, Bool, true, false, cond, ◌&&◌, ◌||◌, List, [], ◌∷◌, filter, refl, sym, ap, ◌∙◌, subst, arith, eq-eqb, eqb-true, ◌⊎◌, inl, inr}
use Rattle.std.proofs.lemmas.Bool.{cases_lt, false≢true, true≢false}
use Rattle.std.proofs.lemmas.Bool.Decides.{nat_tests}
use Rattle.mail_query.specs.Numbers.{has_number, RisesFrom}

pub rises_lower : (a b : ℕ) (xs : List ℕ) → a ≤ b → RisesFrom b xs → RisesFrom a xs
rises_lower a b [] less rises = tt
rises_lower a b (x ∷ xs) less rises = ((omega arith), rises.1)

apart : (x n : ℕ) → ¬ (x ≡ n) → (x == n) ≡ false
apart x n differs = grind (arith, nat_tests)

-- a number below all others isn't among them
pub absent_below : (n b : ℕ) (xs : List ℕ) → n < b → RisesFrom b xs → has_number n xs ≡ false
absent_below n b [] less rises = refl
absent_below n b (x ∷ xs) less rises =
    ap (λ t. t || has_number n xs) (apart x n (λ e. omega arith)) ∙ absent_below n (x + 1) xs (omega arith) rises.1

pub has_first : (n : ℕ) (xs : List ℕ) → has_number n (n ∷ xs) ≡ true
has_first n xs = ap (λ t. t || has_number n xs) (eq-eqb n n refl)

pub has_later : (n x : ℕ) (xs : List ℕ) → ¬ (x ≡ n) → has_number n (x ∷ xs) ≡ has_number n xs
has_later n x xs differs = ap (λ t. t || has_number n xs) (apart x n differs)

-- ---- rising lists of the same numbers are the same

first_absent : (x y : ℕ) (xs ys : List ℕ) → RisesFrom (y + 1) ys → has_number x (x ∷ xs) ≡ has_number x (y ∷ ys) → x < y → ⊥
first_absent x y xs ys rises same less =
    true≢false (sym (has_first x xs) ∙ same ∙ has_later x y ys (λ e. omega arith) ∙ absent_below x (y + 1) ys (omega arith) rises)

same_rest : (n x : ℕ) (xs ys : List ℕ) → RisesFrom (x + 1) xs → RisesFrom (x + 1) ys → has_number n (x ∷ xs) ≡ has_number n (x ∷ ys) →
    (n < x + 1) ⊎ (x + 1 ≤ n) → has_number n xs ≡ has_number n ys
same_rest n x xs ys rises_x rises_y same (inl before) = absent_below n (x + 1) xs before rises_x ∙ sym (absent_below n (x + 1) ys before rises_y)
same_rest n x xs ys rises_x rises_y same (inr behind) = sym (has_later n x xs (λ e. omega arith)) ∙ same ∙ has_later n x ys (λ e. omega arith)

pub unique : (a b : ℕ) (xs ys : List ℕ) → RisesFrom a xs → RisesFrom b ys → ((n : ℕ) → has_number n xs ≡ has_number n ys) → xs ≡ ys
unique a b [] [] rises_x rises_y same = refl
unique a b [] (y ∷ ys) rises_x rises_y same = absurd (false≢true (same y ∙ has_first y ys))
unique a b (x ∷ xs) [] rises_x rises_y same = absurd (false≢true (sym (same x) ∙ has_first x xs))
unique a b (x ∷ xs) (y ∷ ys) rises_x rises_y same =
    let not_less : x < y → ⊥ = λ less. first_absent x y xs ys rises_y.1 (same x) less in
    let not_greater : y < x → ⊥ = λ less. first_absent y x ys xs rises_x.1 (sym (same y)) less in
    let head : x ≡ y = omega arith in
    let rises : RisesFrom (x + 1) ys = subst (λ k. RisesFrom (k + 1) ys) (sym head) rises_y.1 in
    let rest : (n : ℕ) → has_number n xs ≡ has_number n ys =
    λ n. same_rest n x xs ys rises_x.1 rises (same n ∙ ap (λ k. has_number n (k ∷ ys)) (sym head)) (cases_lt n (x + 1)) in
    ap (λ k. k ∷ xs) head ∙ ap (λ ks. y ∷ ks) (unique (x + 1) (x + 1) xs ys rises_x.1 rises rest)

-- ---- filters

filter_step : (p : ℕ → Bool) (b x : ℕ) (xs ks : List ℕ) → b ≤ x → RisesFrom (x + 1) ks → (t : Bool) → RisesFrom b (cond t (x ∷ ks) ks)
filter_step p b x xs ks low rises true = (low, rises)
filter_step p b x xs ks low rises false = rises_lower b (x + 1) ks (omega arith) rises

pub rises-filter : (p : ℕ → Bool) (b : ℕ) (xs : List ℕ) → RisesFrom b xs → RisesFrom b (filter p xs)
rises-filter p b [] rises = tt
rises-filter p b (x ∷ xs) rises = filter_step p b x xs (filter p xs) rises.0 (rises-filter p (x + 1) xs rises.1) (p x)

or_and : (a b c : Bool) → (a ≡ true → c ≡ true) → (a || (b && c)) ≡ ((a || b) && c)
or_and true b c gives = sym (gives refl)
or_and false b c gives = refl

or_none : (a b c : Bool) → (a ≡ true → c ≡ false) → (b && c) ≡ ((a || b) && c)
or_none true true c gives = refl
or_none true false c gives = sym (gives refl)
or_none false b c gives = refl

has_kept : (p : ℕ → Bool) (n x : ℕ) (xs ks : List ℕ) → has_number n ks ≡ (has_number n xs && p n) → (t : Bool) → p x ≡ t →
    has_number n (cond t (x ∷ ks) ks) ≡ (has_number n (x ∷ xs) && p n)
has_kept p n x xs ks inner true is =
    ap (λ t. (x == n) || t) inner ∙ or_and (x == n) (has_number n xs) (p n) (λ same. ap p (sym (eqb-true x n same)) ∙ is)
has_kept p n x xs ks inner false is =
    inner ∙ or_none (x == n) (has_number n xs) (p n) (λ same. ap p (sym (eqb-true x n same)) ∙ is)

pub has-filter : (p : ℕ → Bool) (n : ℕ) (xs : List ℕ) → has_number n (filter p xs) ≡ (has_number n xs && p n)
has-filter p n [] = refl
has-filter p n (x ∷ xs) = has_kept p n x xs (filter p xs) (has-filter p n xs) (p x) refl
