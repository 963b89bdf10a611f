-- A packed segment as a list of its own words: a table of keys in rising order, and the messages of each.
-- Word 0 is the end, words 1 and 2 count the keys and the postings, word 3 is 1, words 4 to 7 are 0, then comes the
-- table, then the messages up to the end, then zeros.
use Rattle.std.specs.Prelude.{◌≡◌, ℕ, ◌+◌, ◌*◌, ◌<◌, ◌≤◌, IsTrue, List, [], ◌∷◌, length, map, slice_index, slice_range}
use Rattle.std.specs.List.{All, flat_map, range_with_len}
use Rattle.std.specs.List.Sorted.{IsStrictlySortedBy}
use Rattle.std.specs.Ordering.{nat_cmp}
use Rattle.mail_words.specs.Key.{KeyNumbers, key_cmp, is_key}
use Rattle.tx_heap.specs.Layout.{Layout}
use Rattle.tx_heap.specs.Segment.{Row, key_at}

abbrev pub end_of : List ℕ → ℕ
end_of words = slice_index words 0

abbrev pub packed_keys : List ℕ → ℕ
packed_keys words = slice_index words 1

abbrev pub packed_postings : List ℕ → ℕ
packed_postings words = slice_index words 2

-- a key has six words in the table: its four numbers, where its messages begin, and how many they are
pub record Entry : Type 0 where
  pub key : KeyNumbers
  pub place : ℕ
  pub count : ℕ

abbrev pub entry_at : List ℕ → ℕ → Entry
entry_at words at =
    record { key = key_at words at; place = slice_index words (at + 4); count = slice_index words (at + 5) }

abbrev pub table_of : List ℕ → List Entry
table_of words = map (λ index. entry_at words (8 + 6 * index)) (range_with_len 0 (packed_keys words))

abbrev pub messages_of : List ℕ → Entry → List ℕ
messages_of words entry = slice_range words entry.place (entry.place + entry.count)

abbrev pub rows_of_entry : List ℕ → Entry → List Row
rows_of_entry words entry = map (λ message. (entry.key, message)) (messages_of words entry)

-- the rows of a packed segment
abbrev pub packed_rows : List ℕ → List Row
packed_rows words = flat_map (rows_of_entry words) (table_of words)

-- the messages of the entries lie one after the other, some for each, from a place on up to the given one
abbrev pub LieInARow : ℕ → List Entry → ℕ → Type 0
LieInARow from [] to = from ≡ to
LieInARow from (entry ∷ entries) to = (entry.place ≡ from) × (1 ≤ entry.count) × LieInARow (from + entry.count) entries to

-- the words are a packed segment
pub record IsPacked (words : List ℕ) : Type 0 where
  pub marked : slice_index words 3 ≡ 1
  pub unused : (at : ℕ) → 4 ≤ at → at < 8 → slice_index words at ≡ 0
  pub filled : end_of words ≡ 8 + 6 * packed_keys words + packed_postings words
  pub ends : end_of words ≤ length words
  pub keys : All (λ (entry : Entry). IsTrue (is_key entry.key)) (table_of words)
  pub keys_rise : IsStrictlySortedBy key_cmp (map (λ (entry : Entry). entry.key) (table_of words))
  pub placed : LieInARow (8 + 6 * packed_keys words) (table_of words) (end_of words)
  pub messages_rise : All (λ (entry : Entry). IsStrictlySortedBy nat_cmp (messages_of words entry)) (table_of words)
  pub cleared : (at : ℕ) → end_of words ≤ at → at < length words → slice_index words at ≡ 0

-- its keys are of the lane
abbrev pub AreOfLane : Layout → ℕ → List ℕ → Type 0
AreOfLane layout lane words = All (λ (entry : Entry). layout.lane_of entry.key ≡ lane) (table_of words)
