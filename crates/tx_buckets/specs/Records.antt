-- The record of a key in an open segment.
use Rattle.std.specs.Prelude.{◌≡◌, ℕ, List, Option, Some, None, Contains}
use Rattle.mail_words.specs.Key.{KeyNumbers}
use Rattle.tx_heap.specs.Layout.{Layout}
use Rattle.tx_heap.specs.Segment.{key_at, record_at, records_of}

-- a record of the segment stands at this offset and has the key
pub record IsRecordOf (layout : Layout) (words : List ℕ) (key : KeyNumbers) (at : ℕ) : Type 0 where
  pub among : Contains (records_of layout words) (record_at words at)
  pub has_key : key_at words at ≡ key

-- a record of the segment stands at this offset
abbrev pub HasRecordAt : Layout → List ℕ → ℕ → Type 0
HasRecordAt layout words at = Contains (records_of layout words) (record_at words at)

-- where the record of the key is, or that there is none
abbrev pub IsFound : Layout → List ℕ → KeyNumbers → Option ℕ → Type 0
IsFound layout words key None = (at : ℕ) → ¬ IsRecordOf layout words key at
IsFound layout words key (Some at) = IsRecordOf layout words key at
