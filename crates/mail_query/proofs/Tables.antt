-- Answers over a table, as filters of the message numbers.
use Rattle.std.proofs.Common.{◌≡◌, ℕ, zero, suc, ◌+◌, ◌==◌, Bool, true, false, cond, ◌&&◌, ◌||◌, List, [], ◌∷◌, map, filter, refl, sym, ap, ◌∙◌, arith, nat_lt, nat_le}
use Rattle.std.specs.List.{range_with_len}
use Rattle.std.proofs.lemmas.Bool.Decides.{nat_tests}
use Rattle.mail_words.specs.Key.{KeyNumbers, same_key}
use Rattle.mail_query.specs.Truth.{has_key}
use Rattle.mail_query.specs.Answers.{Table, keys_with, messages_with}
use Rattle.mail_query.specs.Numbers.{has_number, RisesFrom, Rises}
use Rattle.mail_query.proofs.RisingNumbers.{unique, rises-filter, has-filter}
use Rattle.mail_query.proofs.Unions.{rises_with_numbers, has_with_numbers}

-- ---- the message numbers

-- a number from 1 to `count`
abbrev pub is_message : ℕ → ℕ → Bool
is_message count number = nat_lt 0 number && nat_le number count

pub rises_range : (a n : ℕ) → RisesFrom a (range_with_len a n)
rises_range a zero = tt
rises_range a (suc n) = ((omega arith), rises_range (a + 1) n)

in_range : (m a n : ℕ) → has_number m (range_with_len a n) ≡ (nat_le a m && nat_lt m (a + n))
in_range m a zero = grind (arith, nat_tests)
in_range m a (suc n) = ap (λ t. (a == m) || t) (in_range m (a + 1) n) ∙ grind (arith, nat_tests)

in_messages : (m count : ℕ) → has_number m (range_with_len 1 count) ≡ is_message count m
in_messages m count = in_range m 1 count ∙ grind (arith, nat_tests)

-- a rising list of the message numbers that pass a test is the filter by that test
pub is_filter : (test : ℕ → Bool) (count low : ℕ) (xs : List ℕ) → RisesFrom low xs → ((m : ℕ) → has_number m xs ≡ (is_message count m && test m)) →
    xs ≡ filter test (range_with_len 1 count)
is_filter test count low xs rises members =
    unique low 1 xs (filter test (range_with_len 1 count)) rises (rises-filter test 1 (range_with_len 1 count) (rises_range 1 count))
    (λ m. members m ∙ ap (λ t. t && test m) (sym (in_messages m count)) ∙ sym (has-filter test m (range_with_len 1 count)))

abbrev pub passing : (ℕ → Bool) → ℕ → List ℕ
passing test count = filter test (range_with_len 1 count)

pub rises_passing : (test : ℕ → Bool) (count : ℕ) → RisesFrom 1 (passing test count)
rises_passing test count = rises-filter test 1 (range_with_len 1 count) (rises_range 1 count)

has_passing : (test : ℕ → Bool) (count m : ℕ) → has_number m (passing test count) ≡ (is_message count m && test m)
has_passing test count m = has-filter test m (range_with_len 1 count) ∙ ap (λ t. t && test m) (in_messages m count)

pub same_passing : (p q : ℕ → Bool) (count : ℕ) → ((m : ℕ) → p m ≡ q m) → passing p count ≡ passing q count
same_passing p q count same =
    is_filter q count 1 (passing p count) (rises_passing p count) (λ m. has_passing p count m ∙ ap (λ t. is_message count m && t) (same m))

-- ---- a word

abbrev with_key : KeyNumbers → Table → Table
with_key key table = filter (λ pair. same_key pair.0 key) table

abbrev numbers_of : Table → List ℕ
numbers_of table = map (λ pair. pair.1) table

-- one more pair: the key's list has its number where the number's list has its key
one_pair : (key k : KeyNumbers) (m n : ℕ) (table : Table) (b c : Bool) → same_key k key ≡ b → (n == m) ≡ c →
    has_number m (numbers_of (with_key key table)) ≡ has_key key (keys_with table m) →
    has_number m (map (λ (pair : KeyNumbers × ℕ). pair.1) (cond b ((k, n) ∷ with_key key table) (with_key key table)))
    ≡ has_key key (map (λ (pair : KeyNumbers × ℕ). pair.0) (cond c ((k, n) ∷ filter (λ pair. pair.1 == m) table) (filter (λ pair. pair.1 == m) table)))
one_pair key k m n table true true is_key is_number inner = ap (λ t. t || has_number m (numbers_of (with_key key table))) is_number
    ∙ ap (λ t. t || has_key key (keys_with table m)) (sym is_key)
one_pair key k m n table true false is_key is_number inner = ap (λ t. t || has_number m (numbers_of (with_key key table))) is_number ∙ inner
one_pair key k m n table false true is_key is_number inner = inner ∙ ap (λ t. t || has_key key (keys_with table m)) (sym is_key)
one_pair key k m n table false false is_key is_number inner = inner

paired : (table : Table) (key : KeyNumbers) (m : ℕ) → has_number m (numbers_of (with_key key table)) ≡ has_key key (keys_with table m)
paired [] key m = refl
paired (pair ∷ table) key m = one_pair key pair.0 m pair.1 table (same_key pair.0 key) (pair.1 == m) refl refl (paired table key m)

pub or_false : (b : Bool) → (b || false) ≡ b
or_false true = refl
or_false false = refl

pub has_messages : (table : Table) (key : KeyNumbers) (m : ℕ) → has_number m (messages_with table key) ≡ has_key key (keys_with table m)
has_messages table key m =
    has_with_numbers m (numbers_of (with_key key table)) [] ∙ or_false (has_number m (numbers_of (with_key key table))) ∙ paired table key m

pub rises_messages : (table : Table) (key : KeyNumbers) → Rises (messages_with table key)
rises_messages table key = rises_with_numbers (numbers_of (with_key key table)) [] tt

-- a rising list of the numbers that the table pairs with the key
pub is_messages : (table : Table) (key : KeyNumbers) (numbers : List ℕ) → Rises numbers
    → ((number : ℕ) → has_number number numbers ≡ has_key key (keys_with table number)) →
    numbers ≡ messages_with table key
is_messages table key numbers rises members =
    unique 0 0 numbers (messages_with table key) rises (rises_messages table key) (λ number. members number ∙ sym (has_messages table key number))

pub and_swap : (a b : Bool) → (a && b) ≡ (b && a)
and_swap true true = refl
and_swap true false = refl
and_swap false true = refl
and_swap false false = refl
