-- The numbers of two rising lists in one.
use Rattle.std.proofs.Common.{◌≡◌, ℕ, ◌+◌, ◌<◌, ◌≤◌, ◌==◌, Bool, true, false, cond, ◌||◌, List, [], ◌∷◌, refl, sym, ap, ◌∙◌, subst, arith, eq-eqb, ◌⊎◌, inl, inr, nat_lt}
use Rattle.std.proofs.lemmas.Bool.{cases_lt, cases_eq, lt-ltb}
use Rattle.std.proofs.lemmas.Bool.Decides.{nat_tests}
use Rattle.mail_query.specs.Numbers.{has_number, RisesFrom, Rises, with_number, with_numbers, rising}
use Rattle.mail_query.proofs.RisingNumbers.{rises_lower}

abbrev by_tests : Bool → Bool → ℕ → ℕ → List ℕ → List ℕ
by_tests less same n x xs = cond less (n ∷ x ∷ xs) (cond same (x ∷ xs) (x ∷ with_number n xs))

with-less : (n x : ℕ) (xs : List ℕ) → n < x → with_number n (x ∷ xs) ≡ n ∷ x ∷ xs
with-less n x xs less = ap (λ t. by_tests t (n == x) n x xs) (lt-ltb n x less)

with-equal : (n : ℕ) (xs : List ℕ) → with_number n (n ∷ xs) ≡ n ∷ xs
with-equal n xs =
    let not_less : nat_lt n n ≡ false = grind (arith, nat_tests) in
    ap (λ t. by_tests t (n == n) n n xs) not_less ∙ ap (λ t. by_tests false t n n xs) (eq-eqb n n refl)

with-greater : (n x : ℕ) (xs : List ℕ) → x < n → with_number n (x ∷ xs) ≡ x ∷ with_number n xs
with-greater n x xs less =
    let not_less : nat_lt n x ≡ false = grind (arith, nat_tests) in
    let not_same : (n == x) ≡ false = grind (arith, nat_tests) in
    ap (λ t. by_tests t (n == x) n x xs) not_less ∙ ap (λ t. by_tests false t n x xs) not_same

-- how a number stands to another
data Order (n x : ℕ) : Type 0 where
  less : n < x → Order n x
  equal : n ≡ x → Order n x
  greater : x < n → Order n x

order_by : (n x : ℕ) → (n < x) ⊎ (x ≤ n) → (n ≡ x) ⊎ (¬ (n ≡ x)) → Order n x
order_by n x (inl before) same = less before
order_by n x (inr behind) (inl same) = equal same
order_by n x (inr behind) (inr differs) = greater (omega arith)

order_of : (n x : ℕ) → Order n x
order_of n x = order_by n x (cases_lt n x) (cases_eq n x)

pub with-below : (n : ℕ) (xs : List ℕ) → RisesFrom (n + 1) xs → with_number n xs ≡ n ∷ xs
with-below n [] rises = refl
with-below n (x ∷ xs) rises = with-less n x xs (omega (arith, rises.0))

rises_at : (n b x : ℕ) (xs : List ℕ) → b ≤ n → RisesFrom b (x ∷ xs) → (x + 1 ≤ n → RisesFrom (x + 1) (with_number n xs)) → Order n x
    → RisesFrom b (with_number n (x ∷ xs))
rises_at n b x xs low rises inner (less before) = subst (RisesFrom b) (sym (with-less n x xs before)) (low, ((omega arith), rises.1))
rises_at n b x xs low rises inner (equal same) =
    subst (λ k. RisesFrom b (with_number k (x ∷ xs))) (sym same) (subst (RisesFrom b) (sym (with-equal x xs)) rises)
rises_at n b x xs low rises inner (greater behind) = subst (RisesFrom b) (sym (with-greater n x xs behind)) (rises.0, inner (omega arith))

pub rises_with : (n b : ℕ) (xs : List ℕ) → b ≤ n → RisesFrom b xs → RisesFrom b (with_number n xs)
rises_with n b [] low rises = (low, tt)
rises_with n b (x ∷ xs) low rises = rises_at n b x xs low rises (λ above. rises_with n (x + 1) xs above rises.1) (order_of n x)

or_twice : (a b : Bool) → (a || b) ≡ (a || (a || b))
or_twice true b = refl
or_twice false b = refl

or_swap : (a b c : Bool) → (a || (b || c)) ≡ (b || (a || c))
or_swap true true c = refl
or_swap true false c = refl
or_swap false b c = refl

or_assoc : (a b c : Bool) → (a || (b || c)) ≡ ((a || b) || c)
or_assoc true b c = refl
or_assoc false b c = refl

has_at : (m n x : ℕ) (xs : List ℕ) → has_number m (with_number n xs) ≡ ((n == m) || has_number m xs) → Order n x →
    has_number m (with_number n (x ∷ xs)) ≡ ((n == m) || has_number m (x ∷ xs))
has_at m n x xs inner (less before) = ap (has_number m) (with-less n x xs before)
has_at m n x xs inner (equal same) =
    subst (λ k. has_number m (with_number k (x ∷ xs)) ≡ ((k == m) || has_number m (x ∷ xs))) (sym same)
    (ap (has_number m) (with-equal x xs) ∙ or_twice (x == m) (has_number m xs))
has_at m n x xs inner (greater behind) =
    ap (has_number m) (with-greater n x xs behind) ∙ ap (λ t. (x == m) || t) inner ∙ or_swap (x == m) (n == m) (has_number m xs)

pub has_with : (m n : ℕ) (xs : List ℕ) → has_number m (with_number n xs) ≡ ((n == m) || has_number m xs)
has_with m n [] = refl
has_with m n (x ∷ xs) = has_at m n x xs (has_with m n xs) (order_of n x)

-- ---- one list put into another

pub rises_with_numbers : (ys xs : List ℕ) → Rises xs → Rises (with_numbers ys xs)
rises_with_numbers [] xs rises = rises
rises_with_numbers (y ∷ ys) xs rises = rises_with y 0 (with_numbers ys xs) (omega arith) (rises_with_numbers ys xs rises)

rises_from_both : (b : ℕ) (ys xs : List ℕ) → RisesFrom b ys → RisesFrom b xs → RisesFrom b (with_numbers ys xs)
rises_from_both b [] xs rises_y rises_x = rises_x
rises_from_both b (y ∷ ys) xs rises_y rises_x =
    rises_with y b (with_numbers ys xs) rises_y.0 (rises_from_both b ys xs (rises_lower b (y + 1) ys (omega (arith, rises_y.0)) rises_y.1) rises_x)

pub has_with_numbers : (m : ℕ) (ys xs : List ℕ) → has_number m (with_numbers ys xs) ≡ (has_number m ys || has_number m xs)
has_with_numbers m [] xs = refl
has_with_numbers m (y ∷ ys) xs =
    has_with m y (with_numbers ys xs) ∙ ap (λ t. (y == m) || t) (has_with_numbers m ys xs) ∙ or_assoc (y == m) (has_number m ys) (has_number m xs)

-- a list that rises already
pub rising-same : (b : ℕ) (ys : List ℕ) → RisesFrom b ys → rising ys ≡ ys
rising-same b [] rises = refl
rising-same b (y ∷ ys) rises = ap (with_number y) (rising-same (y + 1) ys rises.1) ∙ with-below y ys rises.1
