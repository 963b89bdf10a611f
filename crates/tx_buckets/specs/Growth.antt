-- What a new record and a new cell change of an open segment.
use Rattle.std.specs.Prelude.{◌≡◌, ◌≢◌, ℕ, ◌+◌, ◌<◌, ◌≤◌, ◌==◌, List, [], ◌∷◌, length, map, slice_index, slice_set, if◌then◌else◌}
use Rattle.mail_words.specs.Key.{KeyNumbers}
use Rattle.tx_heap.specs.Layout.{Layout}
use Rattle.tx_heap.specs.Segment.{KeyRecord, bucket, free_of, keys_of, cells_of, head_at, newest_at}
use Rattle.tx_heap.specs.Heap.{Heap, segment_of}

-- the first free words became a record of the key: the newest of its bucket, with no cell yet
pub record WithRecord (layout : Layout) (key : KeyNumbers) (old new : List ℕ) : Type 0 where
  pub many : length new ≡ length old
  pub free : free_of new ≡ free_of old + 6
  pub keys : keys_of new ≡ keys_of old + 1
  pub cells : cells_of new ≡ cells_of old
  pub unused : (at : ℕ) → 3 ≤ at → at < 8 → slice_index new at ≡ slice_index old at
  pub here : bucket new (layout.bucket_of key)
      ≡ record { at = free_of old; key = key; next = slice_index old (head_at (layout.bucket_of key)); cells = [] } ∷ bucket old (layout.bucket_of key)
  pub others : (number : ℕ) → number < layout.buckets → number ≢ layout.bucket_of key → bucket new number ≡ bucket old number

-- the record at an offset with one more cell, in the first free words: its newest
abbrev pub celled : List ℕ → ℕ → ℕ → KeyRecord → KeyRecord
celled words at message r =
    if r.at == at
    then record {
      at = r.at;
      key = r.key;
      next = r.next;
      cells = record {
        at = free_of words;
        message = message;
        next = slice_index words
            (at + newest_at);
      } ∷ r.cells;
    }
    else r

-- the first free words became a cell of the message: the newest of the record at an offset
pub record WithCell (layout : Layout) (at message : ℕ) (old new : List ℕ) : Type 0 where
  pub many : length new ≡ length old
  pub free : free_of new ≡ free_of old + 2
  pub keys : keys_of new ≡ keys_of old
  pub cells : cells_of new ≡ cells_of old + 1
  pub unused : (offset : ℕ) → 3 ≤ offset → offset < 8 → slice_index new offset ≡ slice_index old offset
  pub buckets : (number : ℕ) → number < layout.buckets → bucket new number ≡ map (celled old at message) (bucket old number)

-- ---- in an index
-- only the words of one segment changed
abbrev pub IsChangedIn : ℕ → Heap → Heap → Type 0
IsChangedIn segment old new =
    new ≡ record {
      pool = old.pool;
      lanes = old.lanes;
      needs = old.needs;
      gates = old.gates;
      links = old.links;
      segments = slice_set old.segments segment
          (segment_of new segment);
    }

-- the segment has a new record of the key, at this offset
pub record IsInserted (layout : Layout) (segment : ℕ) (key : KeyNumbers) (at : ℕ) (old new : Heap) : Type 0 where
  pub at_free : at ≡ free_of (segment_of old segment)
  pub only : IsChangedIn segment old new
  pub words : WithRecord layout key (segment_of old segment) (segment_of new segment)

-- the record at an offset has a new cell of the message
pub record IsCellAdded (layout : Layout) (segment offset message : ℕ) (old new : Heap) : Type 0 where
  pub only : IsChangedIn segment old new
  pub words : WithCell layout offset message (segment_of old segment) (segment_of new segment)
