-- Maps from keys to message numbers, and the tables that they stand for.
use Rattle.std.proofs.Common.{◌≡◌, ℕ, suc, ◌+◌, ◌<◌, ◌≤◌, Bool, true, false, cond, List, [], ◌∷◌, ◌++◌, length, get_or, drop, map, filter, refl, sym, ap, ◌∙◌, subst, arith, Vec, Some, Ordering, append_assoc, append-nil, take, ◌⊎◌, inl, inr}
use Rattle.std.specs.declared.cmp.Ordering.TheVariants.{Less, Equal}
use Rattle.std.specs.Ordering.{is_eq, ordering_reverse}
use Rattle.std.specs.Cmp.{Equal-is}
use Rattle.std.specs.BTreeMap.{BTreeMap, get, is_at}
use Rattle.std.specs.Map.{lookup}
use Rattle.std.specs.List.{AllByRecursion}
use Rattle.std.specs.List.Sorted.{IsStrictlySortedBy}
use Rattle.std.proofs.lemmas.Bool.{cases_lt}
use Rattle.std.proofs.lemmas.List.{map-append, drop_more, take_more}
use Rattle.std.proofs.Math.Seq.{drop-length}
use Rattle.std.proofs.lemmas.List.Elements.{filter-append}
use Rattle.mail_words.specs.Key.{KeyNumbers, key_cmp, same_key}
use Rattle.mail_query.specs.Answers.{Table, messages_with}
use Rattle.mail_query.specs.Numbers.{RisesFrom}
use Rattle.mail_query.specs.ListTable.{pairs_of, pairs_from, table_of, paired_with, items_or_none, listed, StandsFor, GrewBy}
use Rattle.mail_query.proofs.KeyOrder.{KeyOrder}
use Rattle.mail_query.proofs.InOrder.{lists_in_order, same_table}
use Rattle.mail_query.proofs.RisingNumbers.{rises_lower}
use Rattle.mail_query.proofs.Unions.{rising-same}

-- ---- keys

equal_from : (o : Ordering) → is_eq o ≡ true → o ≡ Equal
equal_from o is = (Equal-is o).0 is

-- a later key of a rising list is another one
other_key : KeyOrder → (k x y : KeyNumbers) → same_key x k ≡ true → key_cmp x y ≡ Less → same_key y k ≡ false
other_key order k x y is less =
    let below : key_cmp k y ≡ Less = ap (λ q. key_cmp q y) (sym (order.same x k is)) ∙ less in
    order.ties y k ∙ ap is_eq (order.total.antisymm y k ∙ ap ordering_reverse below)

-- ---- tables

module _ (k : KeyNumbers) where
  pub paired-append : (a b : Table) → paired_with k (a ++ b) ≡ paired_with k a ++ paired_with k b
  paired-append a b =
      ap (map (λ (pair : KeyNumbers × ℕ). pair.1)) (filter-append (λ (pair : KeyNumbers × ℕ). same_key pair.0 k) a b)
      ∙ map-append (λ (pair : KeyNumbers × ℕ). pair.1) (filter (λ (pair : KeyNumbers × ℕ). same_key pair.0 k) a)
      (filter (λ (pair : KeyNumbers × ℕ). same_key pair.0 k) b)

  abbrev kept_if : Bool → KeyNumbers × ℕ → Table → List ℕ
  kept_if b pair table = map (λ (p : KeyNumbers × ℕ). p.1) (cond b (pair ∷ filter (λ p. same_key p.0 k) table) (filter (λ p. same_key p.0 k) table))

module _ (order : KeyOrder) (k : KeyNumbers) where
  -- behind its key a rising list has the key no more
  paired_after : (x : KeyNumbers) (m : ℕ) (keys : List KeyNumbers) → same_key x k ≡ true → AllByRecursion (λ y. key_cmp x y ≡ Less) keys
      → paired_with k (pairs_of keys m) ≡ []
  paired_after x m [] is after = refl
  paired_after x m (y ∷ keys) is after =
      ap (λ b. kept_if k b (y, m) (pairs_of keys m)) (other_key order k x y is after.0) ∙ paired_after x m keys is after.1

  rises_step : (x : KeyNumbers) (m : ℕ) (keys : List KeyNumbers) (rest : List ℕ) (b : Bool) → same_key x k ≡ b → AllByRecursion (λ y. key_cmp x y ≡ Less) keys
      → RisesFrom (m + 1) rest → RisesFrom m (paired_with k (pairs_of keys m) ++ rest) → RisesFrom m (kept_if k b (x, m) (pairs_of keys m) ++ rest)
  rises_step x m keys rest true is after rises inner =
      (omega arith, subst (λ l. RisesFrom (m + 1) (l ++ rest)) (sym (paired_after x m keys is after)) rises)
  rises_step x m keys rest false is after rises inner = inner

  rises_list : (m : ℕ) (keys : List KeyNumbers) (rest : List ℕ) → IsStrictlySortedBy key_cmp keys → RisesFrom (m + 1) rest
      → RisesFrom m (paired_with k (pairs_of keys m) ++ rest)
  unfolding IsStrictlySortedBy
  rises_list m [] rest sorted rises = rises_lower m (m + 1) rest (omega arith) rises
  rises_list m (x ∷ keys) rest sorted rises = rises_step x m keys rest (same_key x k) refl sorted.0 rises (rises_list m keys rest sorted.1 rises)

  rises_table : (m : ℕ) (lists : List (List KeyNumbers)) → AllByRecursion (IsStrictlySortedBy key_cmp) lists → RisesFrom m (paired_with k (pairs_from m lists))
  rises_table m [] sorted = tt
  rises_table m (keys ∷ lists) sorted =
      subst (RisesFrom m) (sym (paired-append k (pairs_of keys m) (pairs_from (m + 1) lists)))
      (rises_list m keys (paired_with k (pairs_from (m + 1) lists)) sorted.0 (rises_table (m + 1) lists sorted.1))

  -- the numbers that word lists pair with a key rise as they stand
  pub paired_rises : (lists : List (List KeyNumbers)) → AllByRecursion (IsStrictlySortedBy key_cmp) lists
      → messages_with (table_of lists) k ≡ paired_with k (table_of lists)
  paired_rises lists sorted = rising-same 1 (paired_with k (table_of lists)) (rises_table 1 lists sorted)

-- each list of the first ones rises
abbrev pub FirstRise : ℕ → List (List KeyNumbers) → Type 0
FirstRise count lists = (i : ℕ) → i < count → IsStrictlySortedBy key_cmp (get_or lists i [])

pub all_rise : (lists : List (List KeyNumbers)) → FirstRise (length lists) lists → AllByRecursion (IsStrictlySortedBy key_cmp) lists
all_rise [] rise = tt
all_rise (keys ∷ lists) rise = (rise 0 (omega arith), all_rise lists (λ i within. rise (suc i) (omega arith)))

-- one list more rises
pub one_more_rises : (count : ℕ) (lists : List (List KeyNumbers)) → FirstRise count lists → IsStrictlySortedBy key_cmp (get_or lists count [])
    → FirstRise (count + 1) lists
one_more_rises count lists rise last i within = from (cases_lt i count)
  where
    from : (i < count) ⊎ (count ≤ i) → IsStrictlySortedBy key_cmp (get_or lists i [])
    from (inl below) = rise i below
    from (inr above) = subst (λ j. IsStrictlySortedBy key_cmp (get_or lists j [])) (omega arith) last

-- ---- maps

module _ {A : Type 0} where
  module _ (order : KeyOrder) (before : BTreeMap KeyNumbers (Vec ℕ A)) (key : KeyNumbers) (message : ℕ) (pushed : Vec ℕ A) where
    at_key : pushed.items ≡ listed before key ++ message ∷ [] → (q : KeyNumbers) (b : Bool) → same_key key q ≡ b →
        items_or_none (cond b (Some pushed) (get key_cmp before q)) ≡ listed before q ++ map (λ (pair : KeyNumbers × ℕ). pair.1)
        (cond b ((key, message) ∷ []) [])
    at_key is q true same = is ∙ ap (λ k. listed before k ++ message ∷ []) (order.same key q same)
    at_key is q false same = sym (append-nil (listed before q))

    -- the map with one message more in the list of a word
    pub grew_by_one : (after : BTreeMap KeyNumbers (Vec ℕ A))
        → ((q : KeyNumbers) → get key_cmp after q ≡ cond (is_at (key_cmp key) q) (Some pushed) (get key_cmp before q))
        → pushed.items ≡ listed before key ++ message ∷ [] → GrewBy before after (pairs_of (key ∷ []) message)
    grew_by_one after updated had q =
        ap items_or_none (updated q ∙ ap (λ b. cond b (Some pushed) (get key_cmp before q)) (sym (order.ties key q))) ∙ at_key had q (same_key key q) refl

  -- growth by two tables, one after the other
  pub grew_further : (before between after : BTreeMap KeyNumbers (Vec ℕ A)) (a b : Table) → GrewBy before between a → GrewBy between after b
      → GrewBy before after (a ++ b)
  grew_further before between after a b first second k =
      second k ∙ ap (λ l. l ++ paired_with k b) (first k) ∙ append_assoc (listed before k) (paired_with k a) (paired_with k b)
      ∙ ap (λ l. listed before k ++ l) (sym (paired-append k a b))

  -- nothing is added by no list
  pub grew_not : (lists : BTreeMap KeyNumbers (Vec ℕ A)) → GrewBy lists lists []
  grew_not lists k = sym (append-nil (listed lists k))

  -- one key more
  pub grew_by_key : (before between after : BTreeMap KeyNumbers (Vec ℕ A)) (keys : List KeyNumbers) (i message : ℕ) (key d : KeyNumbers) → i < length keys
      → key ≡ get_or keys i d
      → GrewBy before between (pairs_of (take i keys) message) → GrewBy between after (pairs_of (key ∷ []) message)
      → GrewBy before after (pairs_of (take (i + 1) keys) message)
  grew_by_key before between after keys i message key d within is first second =
      subst (GrewBy before after)
      (sym (map-append (λ (k : KeyNumbers). (k, message)) (take i keys) (key ∷ []))
      ∙ ap (λ l. pairs_of l message) (ap (λ k. take i keys ++ k ∷ []) is ∙ sym (take_more keys i d within)))
      (grew_further before between after (pairs_of (take i keys) message) (pairs_of (key ∷ []) message) first second)

  -- the map has what the lists before an index pair with each key
  pub record HasFirst (index : ℕ) (lists : List (List KeyNumbers)) (found : BTreeMap KeyNumbers (Vec ℕ A)) : Type 0 where
    pub whole : (k : KeyNumbers) → listed found k ++ paired_with k (pairs_from (index + 1) (drop index lists)) ≡ paired_with k (table_of lists)
    pub rise : FirstRise index lists

  pub has_none : (lists : List (List KeyNumbers)) (found : BTreeMap KeyNumbers (Vec ℕ A)) → found.entries ≡ [] → HasFirst 0 lists found
  has_none lists found empty = record {
    whole = λ k. ap (λ es. items_or_none (lookup (is_at (key_cmp k)) es) ++ paired_with k (table_of lists)) empty;
    rise = λ i within. absurd (omega arith);
  }

  pub has_more : (index : ℕ) (lists : List (List KeyNumbers)) (before after : BTreeMap KeyNumbers (Vec ℕ A)) (keys : List KeyNumbers) → index < length lists
      → keys ≡ get_or lists index []
      → IsStrictlySortedBy key_cmp keys → HasFirst index lists before → GrewBy before after (pairs_of keys (index + 1)) → HasFirst (index + 1) lists after
  has_more index lists before after keys within is sorted has grew = record {
    whole = λ k.
        ap (λ l. l ++ paired_with k (pairs_from (index + 1 + 1) (drop (index + 1) lists))) (grew k)
        ∙ append_assoc (listed before k) (paired_with k (pairs_of keys (index + 1))) (paired_with k (pairs_from (index + 1 + 1) (drop (index + 1) lists)))
        ∙ ap (λ l. listed before k ++ l)
        (sym (paired-append k (pairs_of keys (index + 1)) (pairs_from (index + 1 + 1) (drop (index + 1) lists)))
        ∙ ap (λ l. paired_with k (pairs_from (index + 1) (l ∷ drop (index + 1) lists))) is
        ∙ ap (λ l. paired_with k (pairs_from (index + 1) l)) (sym (drop_more lists index [] within)))
        ∙ has.whole k;
    rise = one_more_rises index lists has.rise (subst (IsStrictlySortedBy key_cmp) is sorted);
  }

  pub stands_for : KeyOrder → (index : ℕ) (lists : List (List KeyNumbers)) (found : BTreeMap KeyNumbers (Vec ℕ A)) → index ≡ length lists
      → HasFirst index lists found → StandsFor found (table_of lists)
  stands_for order index lists found all has =
      let rise = all_rise lists (subst (λ n. FirstRise n lists) all has.rise) in
      record {
        order = lists_in_order 1 lists rise;
        messages = λ k.
            sym (append-nil (listed found k))
            ∙ ap (λ l. listed found k ++ paired_with k (pairs_from (index + 1) l)) (sym (ap (λ n. drop n lists) all ∙ drop-length lists)) ∙ has.whole k
            ∙ sym (paired_rises order k lists rise);
      }

  -- a map stands for one table at most
  pub stands_for_one : KeyOrder → (found : BTreeMap KeyNumbers (Vec ℕ A)) (s t : Table) → StandsFor found s → StandsFor found t → s ≡ t
  stands_for_one order found s t for_s for_t = same_table order s t for_s.order for_t.order (λ key. sym (for_s.messages key) ∙ for_t.messages key)
