-- Tables in order: that of rising word lists is one, and no other has the same messages for each key.
use Rattle.std.proofs.Common.{◌≡◌, ℕ, ◌+◌, ◌<◌, ◌==◌, Bool, true, false, cond, ◌&&◌, ◌||◌, List, [], ◌∷◌, ◌++◌, map, refl, sym, ap, ◌∙◌, arith, Ordering}
use Rattle.std.specs.declared.cmp.Ordering.TheVariants.{Less, Equal, Greater}
use Rattle.std.specs.Ordering.{is_eq, nat_cmp, ordering_then, ordering_reverse}
use Rattle.std.specs.Cmp.{IsTotalOrder}
use Rattle.std.specs.List.{AllByRecursion, list_any, filter}
use Rattle.std.specs.List.Sorted.{IsStrictlySortedBy}
use Rattle.std.proofs.lemmas.Bool.Decides.{nat_tests}
use Rattle.std.proofs.lemmas.Cmp.{nat_cmp_total, on_total, then_total, tied_itself}
use Rattle.std.proofs.lemmas.Map.Lookups.{CmpEqualImpliesEq, exact_unsigned, btree_set_from_contains}
use Rattle.mail_words.specs.Key.{KeyNumbers, key_cmp, same_key}
use Rattle.mail_query.specs.Answers.{Table, messages_with}
use Rattle.mail_query.specs.Numbers.{has_number}
use Rattle.mail_query.specs.ListTable.{pair_cmp, IsInOrder, pairs_of, pairs_from, paired_with}
use Rattle.mail_query.proofs.KeyOrder.{KeyOrder}
use Rattle.mail_query.proofs.Tables.{or_false, and_swap}
use Rattle.mail_query.proofs.Unions.{has_with_numbers}

-- ---- the table of rising lists

-- a pair is before those of later keys of its list, and before those of later numbers
before_rest : (key : KeyNumbers) (m : ℕ) (rest : Table) → AllByRecursion (λ pair. m < pair.1) rest → AllByRecursion (λ pair. pair_cmp (key, m) pair ≡ Less) rest
before_rest key m [] later = tt
before_rest key m (pair ∷ rest) later =
    let less : nat_cmp m pair.1 ≡ Less = grind (arith, nat_tests) in
    (ap (λ o. ordering_then o (key_cmp key pair.0)) less, before_rest key m rest later.1)

before_all : (key : KeyNumbers) (m : ℕ) (keys : List KeyNumbers) (rest : Table) → AllByRecursion (λ other. key_cmp key other ≡ Less) keys
    → AllByRecursion (λ pair. m < pair.1) rest
    → AllByRecursion (λ pair. pair_cmp (key, m) pair ≡ Less) (pairs_of keys m ++ rest)
before_all key m [] rest after later = before_rest key m rest later
before_all key m (other ∷ keys) rest after later =
    (ap (λ o. ordering_then o (key_cmp key other)) (tied_itself nat_cmp_total m) ∙ after.0, before_all key m keys rest after.1 later)

list_in_order : (m : ℕ) (keys : List KeyNumbers) (rest : Table) → IsStrictlySortedBy key_cmp keys → AllByRecursion (λ pair. m < pair.1) rest → IsInOrder rest
    → IsInOrder (pairs_of keys m ++ rest)
unfolding IsStrictlySortedBy
list_in_order m [] rest sorted later in_order = in_order
list_in_order m (key ∷ keys) rest sorted later in_order = (before_all key m keys rest sorted.0 later, list_in_order m keys rest sorted.1 later in_order)

-- the pairs of later lists have greater numbers
later_list : (low m : ℕ) (keys : List KeyNumbers) (rest : Table) → low < m → AllByRecursion (λ pair. low < pair.1) rest
    → AllByRecursion (λ pair. low < pair.1) (pairs_of keys m ++ rest)
later_list low m [] rest less later = later
later_list low m (key ∷ keys) rest less later = (less, later_list low m keys rest less later)

later_table : (low m : ℕ) (lists : List (List KeyNumbers)) → low < m → AllByRecursion (λ pair. low < pair.1) (pairs_from m lists)
later_table low m [] less = tt
later_table low m (keys ∷ lists) less = later_list low m keys (pairs_from (m + 1) lists) less (later_table low (m + 1) lists (omega arith))

pub lists_in_order : (m : ℕ) (lists : List (List KeyNumbers)) → AllByRecursion (IsStrictlySortedBy key_cmp) lists → IsInOrder (pairs_from m lists)
unfolding IsStrictlySortedBy
lists_in_order m [] sorted = tt
lists_in_order m (keys ∷ lists) sorted =
    list_in_order m keys (pairs_from (m + 1) lists) sorted.0 (later_table m (m + 1) lists (omega arith)) (lists_in_order (m + 1) lists sorted.1)

-- ---- no other table

is_eq-then : (a b : Ordering) → is_eq (ordering_then a b) ≡ (is_eq a && is_eq b)
is_eq-then Less b = refl
is_eq-then Equal b = refl
is_eq-then Greater b = refl

is_eq-reverse : (o : Ordering) → is_eq (ordering_reverse o) ≡ is_eq o
is_eq-reverse Less = refl
is_eq-reverse Equal = refl
is_eq-reverse Greater = refl

both_equal : (a b : Ordering) → ordering_then a b ≡ Equal → (a ≡ Equal) × (b ≡ Equal)
both_equal Less b is = absurd cc
both_equal Equal b is = (refl, is)
both_equal Greater b is = absurd cc

module _ (order : KeyOrder) where
  pair_total : IsTotalOrder pair_cmp
  pair_total = then_total (on_total (λ (pair : KeyNumbers × ℕ). pair.1) nat_cmp_total) (on_total (λ (pair : KeyNumbers × ℕ). pair.0) order.total)

  pair_exact : CmpEqualImpliesEq pair_cmp
  pair_exact a b tied =
      let both = both_equal (nat_cmp a.1 b.1) (key_cmp a.0 b.0) tied in
      let key : a.0 ≡ b.0 = order.same a.0 b.0 (order.ties a.0 b.0 ∙ ap is_eq both.1) in
      let number : a.1 ≡ b.1 = exact_unsigned a.1 b.1 both.0 in
      ap (λ k. (k, a.1)) key ∙ ap (λ n. (b.0, n)) number

  pair_ties : (a b : KeyNumbers × ℕ) → is_eq (pair_cmp a b) ≡ (same_key b.0 a.0 && (b.1 == a.1))
  pair_ties a b =
      let numbers : is_eq (nat_cmp a.1 b.1) ≡ (b.1 == a.1) = grind (arith, nat_tests) in
      let keys : is_eq (key_cmp a.0 b.0) ≡ same_key b.0 a.0 = ap is_eq (order.total.antisymm a.0 b.0) ∙ is_eq-reverse (key_cmp b.0 a.0)
      ∙ sym (order.ties b.0 a.0) in
      is_eq-then (nat_cmp a.1 b.1) (key_cmp a.0 b.0) ∙ ap (λ t. t && is_eq (key_cmp a.0 b.0)) numbers ∙ ap (λ t. (b.1 == a.1) && t) keys
      ∙ and_swap (b.1 == a.1) (same_key b.0 a.0)

  abbrev is_in : KeyNumbers × ℕ → Table → Bool
  is_in pair table = list_any (λ other. is_eq (pair_cmp pair other)) table

  -- a pair more: it has the key and the number, or it isn't the pair
  has_step : (pair other : KeyNumbers × ℕ) (table : Table) (b : Bool) → same_key other.0 pair.0 ≡ b
      → has_number pair.1 (paired_with pair.0 table) ≡ is_in pair table
      → has_number pair.1 (map (λ (p : KeyNumbers × ℕ). p.1)
      (cond b (other ∷ filter (λ p. same_key p.0 pair.0) table) (filter (λ p. same_key p.0 pair.0) table)))
      ≡ ((b && (other.1 == pair.1)) || is_in pair table)
  has_step pair other table true is inner = ap (λ t. (other.1 == pair.1) || t) inner
  has_step pair other table false is inner = inner

  has_paired : (pair : KeyNumbers × ℕ) (table : Table) → has_number pair.1 (paired_with pair.0 table) ≡ is_in pair table
  has_paired pair [] = refl
  has_paired pair (other ∷ table) =
      has_step pair other table (same_key other.0 pair.0) refl (has_paired pair table) ∙ ap (λ t. t || is_in pair table) (sym (pair_ties pair other))

  -- a pair is in a table where its number is among its key's messages
  has_pair : (pair : KeyNumbers × ℕ) (table : Table) → has_number pair.1 (messages_with table pair.0) ≡ is_in pair table
  has_pair pair table =
      has_with_numbers pair.1 (paired_with pair.0 table) [] ∙ or_false (has_number pair.1 (paired_with pair.0 table)) ∙ has_paired pair table

  pub same_table : (s t : Table) → IsInOrder s → IsInOrder t → ((key : KeyNumbers) → messages_with s key ≡ messages_with t key) → s ≡ t
  same_table s t in_order_s in_order_t same =
      btree_set_from_contains pair_total (record { keys = s }) (record { keys = t }) in_order_s in_order_t
      (λ pair. sym (has_pair pair s) ∙ ap (has_number pair.1) (same pair.0) ∙ has_pair pair t) pair_exact
