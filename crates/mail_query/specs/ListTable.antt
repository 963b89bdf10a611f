-- The table of word lists, and the maps that stand for a table.
use Rattle.std.specs.Prelude.{◌≡◌, ℕ, ◌+◌, List, [], ◌∷◌, ◌++◌, map, filter, Vec, Option, None, Some}
use Rattle.std.specs.Ordering.{nat_cmp, ordering_then}
use Rattle.std.specs.declared.cmp.Ordering.{Ordering}
use Rattle.std.specs.List.Sorted.{IsStrictlySortedBy}
use Rattle.std.specs.BTreeMap.{BTreeMap, get}
use Rattle.mail_words.specs.Key.{KeyNumbers, key_cmp, same_key}
use Rattle.mail_query.specs.Answers.{Table, messages_with}

-- each key, with the number of the message
abbrev pub pairs_of : List KeyNumbers → ℕ → Table
pairs_of keys message = map (λ key. (key, message)) keys

-- the pairs of the lists, the first of which is that of the message
abbrev pub pairs_from : ℕ → List (List KeyNumbers) → Table
pairs_from message [] = []
pairs_from message (keys ∷ lists) = pairs_of keys message ++ pairs_from (message + 1) lists

-- each key of each list, with the number of the list, from 1 on
abbrev pub table_of : List (List KeyNumbers) → Table
table_of lists = pairs_from 1 lists

-- the order of pairs: by message number, and of one message by key
abbrev pub pair_cmp : KeyNumbers × ℕ → KeyNumbers × ℕ → Ordering
pair_cmp pair other = ordering_then (nat_cmp pair.1 other.1) (key_cmp pair.0 other.0)

-- the pairs rise, so each is in the table once
abbrev pub IsInOrder : Table → Type 0
IsInOrder table = IsStrictlySortedBy pair_cmp table

-- the numbers that are paired with the key, in the order of the table
abbrev pub paired_with : KeyNumbers → Table → List ℕ
paired_with key table = map (λ pair. pair.1) (filter (λ pair. same_key pair.0 key) table)

module _ {A : Type 0} where
  -- a list, or nothing
  abbrev pub items_or_none : Option (Vec ℕ A) → List ℕ
  items_or_none None = []
  items_or_none (Some list) = list.items

  -- what the map has for the key
  abbrev pub listed : BTreeMap KeyNumbers (Vec ℕ A) → KeyNumbers → List ℕ
  listed lists key = items_or_none (get key_cmp lists key)

  -- the map has for each key the messages that the table pairs with it
  abbrev pub HasMessages : BTreeMap KeyNumbers (Vec ℕ A) → Table → Type 0
  HasMessages lists table = (key : KeyNumbers) → listed lists key ≡ messages_with table key

  -- the table is in order, and the map has its messages: a map stands for one table at most
  pub record StandsFor (lists : BTreeMap KeyNumbers (Vec ℕ A)) (table : Table) : Type 0 where
    pub order : IsInOrder table
    pub messages : HasMessages lists table

  -- each list grew by the numbers that the table pairs with its key
  abbrev pub GrewBy : BTreeMap KeyNumbers (Vec ℕ A) → BTreeMap KeyNumbers (Vec ℕ A) → Table → Type 0
  GrewBy before after table = (key : KeyNumbers) → listed after key ≡ listed before key ++ paired_with key table

  -- the second map stands for each table that the first stands for
  abbrev pub StandsForMore : BTreeMap KeyNumbers (Vec ℕ A) → BTreeMap KeyNumbers (Vec ℕ A) → Type 0
  StandsForMore before after = (table : Table) → StandsFor before table → StandsFor after table
