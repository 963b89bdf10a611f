-- What tests on lists say of their members.
use Rattle.std.proofs.Common.{◌≡◌, ◌<◌, ◌≤◌, ◌+◌, ℕ, suc, Bool, true, false, cond, ◌||◌, ◌==◌, List, [], ◌∷◌, length, get_or, map, filter, refl, sym, ap, ◌∙◌, subst, arith, eq-eqb, eqb-true, inl, inr, Contains, ◌↔◌}
use Rattle.std.specs.List.Sorted.{IsStrictlyIncreasing}
use Rattle.std.proofs.lemmas.Bool.{false≢true}
use Rattle.mail_words.specs.Key.{KeyNumbers, same_key}
use Rattle.mail_query.specs.Answers.{Table, keys_with, messages_with}
use Rattle.mail_query.specs.Numbers.{has_number, Rises, RisesFrom}
use Rattle.mail_query.specs.Truth.{has_key}
use Rattle.mail_query.proofs.Tables.{is_messages}
use Rattle.tx_heap.proofs.lemmas.Lanes.{contains_none, contains_first, contains_rest, contains_cases}
use Rattle.mail_answers.proofs.Maps.{AreKeys}

-- ---- tests
or_true : (a b : Bool) → b ≡ true → (a || b) ≡ true
or_true true b is = refl
or_true false b is = is

pub same_tests : (a b : Bool) → (a ≡ true → b ≡ true) → (b ≡ true → a ≡ true) → a ≡ b
same_tests true b to from = sym (to refl)
same_tests false true to from = from refl
same_tests false false to from = refl

-- ---- numbers
pub number_among : (number : ℕ) (numbers : List ℕ) → has_number number numbers ≡ true → Contains numbers number
number_among number [] has = absurd (false≢true has)
number_among number (other ∷ numbers) has = by_test (other == number) refl has (number_among number numbers)
  where
    by_test : (b : Bool) → (other == number) ≡ b → (b || has_number number numbers) ≡ true → (has_number number numbers ≡ true → Contains numbers number)
        → Contains (other ∷ numbers) number
    by_test true same has rest = subst (λ (n : ℕ). Contains (other ∷ numbers) n) (eqb-true other number same) (contains_first other numbers)
    by_test false same has rest = contains_rest other number numbers (rest has)

pub has_among : (number : ℕ) (numbers : List ℕ) → Contains numbers number → has_number number numbers ≡ true
has_among number [] among = absurd (contains_none number among)
has_among number (other ∷ numbers) among =
    elim (contains_cases other number numbers among) [
      | inl here ↦ ap (λ b. b || has_number number numbers) (eq-eqb other number here)
      | inr later ↦ or_true (other == number) (has_number number numbers) (has_among number numbers later)
    ]

-- numbers that rise one after the other
pub rises_from : (low : ℕ) (numbers : List ℕ) → (0 < length numbers → low ≤ get_or numbers 0 0) → IsStrictlyIncreasing numbers → RisesFrom low numbers
rises_from low [] first up = tt
rises_from low (number ∷ numbers) first up = (
  first (omega arith),
  rises_from (number + 1) numbers (λ some. let next = up 0 (omega (arith, some)) in omega (arith, next))
      (λ k within.
      let at : suc k + 1 ≡ suc (k + 1) = omega arith in
      subst (λ (j : ℕ). get_or numbers k 0 < get_or (number ∷ numbers) j 0) at (up (suc k) (omega (arith, within)))),
)

-- ---- keys
module _ (are : AreKeys) where
  pub key_among : (key : KeyNumbers) (keys : List KeyNumbers) → has_key key keys ≡ true → Contains keys key
  key_among key [] has = absurd (false≢true has)
  key_among key (other ∷ keys) has = by_test (same_key other key) refl has (key_among key keys)
    where
      by_test : (b : Bool) → same_key other key ≡ b → (b || has_key key keys) ≡ true → (has_key key keys ≡ true → Contains keys key)
          → Contains (other ∷ keys) key
      by_test true same has rest = subst (λ (k : KeyNumbers). Contains (other ∷ keys) k) ((are.same other key).0 same) (contains_first other keys)
      by_test false same has rest = contains_rest other key keys (rest has)

  pub has_key_among : (key : KeyNumbers) (keys : List KeyNumbers) → Contains keys key → has_key key keys ≡ true
  has_key_among key [] among = absurd (contains_none key among)
  has_key_among key (other ∷ keys) among =
      elim (contains_cases other key keys among) [
        | inl here ↦ ap (λ b. b || has_key key keys) ((are.same other key).1 here)
        | inr later ↦ or_true (same_key other key) (has_key key keys) (has_key_among key keys later)
      ]

-- ---- tables
abbrev first_of : KeyNumbers × ℕ → KeyNumbers
first_of pair = pair.0

pair_is : (pair : KeyNumbers × ℕ) (key : KeyNumbers) (number : ℕ) → pair.0 ≡ key → pair.1 ≡ number → ◌≡◌ {A = KeyNumbers × ℕ} pair (key, number)
pair_is pair key number p q = ap (λ (k : KeyNumbers). (k, pair.1)) p ∙ ap (λ (n : ℕ). (key, n)) q

-- the keys of the pairs, with the first one's where the test holds
abbrev keys_if : Bool → KeyNumbers × ℕ → Table → ℕ → List KeyNumbers
keys_if b pair table number =
    map first_of (cond b (pair ∷ filter (λ (p : KeyNumbers × ℕ). p.1 == number) table) (filter (λ (p : KeyNumbers × ℕ). p.1 == number) table))

pub pair_among : (table : Table) (key : KeyNumbers) (number : ℕ) → Contains (keys_with table number) key → Contains table (key, number)
pair_among [] key number among = absurd (contains_none key among)
pair_among (pair ∷ table) key number among = by_test (pair.1 == number) refl among (pair_among table key number)
  where
    by_test : (b : Bool) → (pair.1 == number) ≡ b
        → Contains (keys_if b pair table number) key
        → (Contains (keys_with table number) key → Contains table (key, number)) → Contains (pair ∷ table) (key, number)
    by_test true same among later =
        elim (contains_cases pair.0 key (keys_with table number) among) [
          | inl here ↦
              subst (λ (p : KeyNumbers × ℕ). Contains (pair ∷ table) p) (pair_is pair key number here (eqb-true pair.1 number same))
              (contains_first pair table)
          | inr behind ↦ contains_rest pair (key, number) table (later behind)
        ]
    by_test false same among later = contains_rest pair (key, number) table (later among)

pub key_of_pair : (table : Table) (key : KeyNumbers) (number : ℕ) → Contains table (key, number) → Contains (keys_with table number) key
key_of_pair [] key number among = absurd (contains_none (key, number) among)
key_of_pair (pair ∷ table) key number among =
    elim (contains_cases pair (key, number) table among) [
      | inl here ↦
          subst (λ (b : Bool). Contains (keys_if b pair table number) key)
          (sym (eq-eqb pair.1 number (ap (λ (p : KeyNumbers × ℕ). p.1) here)))
          (subst (λ (k : KeyNumbers). Contains (pair.0 ∷ keys_with table number) k) (ap first_of here)
          (contains_first pair.0 (keys_with table number)))
      | inr later ↦ either (pair.1 == number) (key_of_pair table key number later)
    ]
  where
    either : (b : Bool) → Contains (keys_with table number) key
        → Contains (keys_if b pair table number) key
    either true among = contains_rest pair.0 key (keys_with table number) among
    either false among = among

-- a rising list of the numbers that a table pairs with a key
pub ordered_messages : AreKeys → (table : Table) (key : KeyNumbers) (ordered numbers : List ℕ) → Rises ordered
    → ((number : ℕ) → Contains ordered number ↔ Contains numbers number)
    → ((number : ℕ) → Contains numbers number ↔ Contains table (key, number)) → ordered ≡ messages_with table key
ordered_messages are table key ordered numbers rises same rows =
    is_messages table key ordered rises
    (λ number. same_tests (has_number number ordered) (has_key key (keys_with table number))
    (λ has. has_key_among are key (keys_with table number) (key_of_pair table key number ((rows number).0 ((same number).0 (number_among number ordered has)))))
    (λ has. has_among number ordered ((same number).1 ((rows number).1 (pair_among table key number (key_among are key (keys_with table number) has))))))
