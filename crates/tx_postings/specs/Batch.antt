-- Batches: the next words of a message that come into an index.
use Rattle.std.specs.Prelude.{◌≡◌, ◌≢◌, ◌⊎◌, ◌↔◌, ℕ, ◌+◌, ◌-◌, ◌<◌, ◌≤◌, List, [], ◌∷◌, length, take, drop, Contains, slice_set}
use Rattle.mail_words.specs.Key.{KeyNumbers}
use Rattle.tx_heap.specs.Layout.{Layout, segment_len}
use Rattle.tx_heap.specs.Segment.{Row, free_of}
use Rattle.tx_heap.specs.Heap.{Heap, own_of, need_of, segment_of}
use Rattle.tx_heap.specs.Index.{rows_of, list_of}
use Rattle.tx_buckets.specs.Records.{IsRecordOf}

-- the keys of a message that are still to come, in the order of its list
abbrev pub keys_to_come : List (List KeyNumbers) → Heap → ℕ → List KeyNumbers
keys_to_come lists heap message = drop (length (list_of lists message) - need_of heap message) (list_of lists message)

-- at most so many of them are a batch: the next ones
abbrev pub most_keys : ℕ
most_keys = 16

abbrev pub batch_of : List (List KeyNumbers) → Heap → ℕ → List KeyNumbers
batch_of lists heap message = take most_keys (keys_to_come lists heap message)

-- the rows of these keys came in for the message, into the lanes' own segments, and its need is less by as many
pub record AddsKeys (layout : Layout) (message : ℕ) (keys : List KeyNumbers) (old new : Heap) : Type 0 where
  pub pool : new.pool ≡ old.pool
  pub lanes : new.lanes ≡ old.lanes
  pub gates : new.gates ≡ old.gates
  pub links : new.links ≡ old.links
  pub needs : new.needs ≡ slice_set old.needs (message - 1) (need_of old message - length keys)
  pub rows : (row : Row) → Contains (rows_of layout new) row ↔ (Contains (rows_of layout old) row ⊎ ((row.1 ≡ message) × Contains keys row.0))
  pub others : (segment : ℕ) → ((lane : ℕ) → lane < length old.lanes → own_of old lane ≢ segment) → segment_of new segment ≡ segment_of old segment

-- ---- room
-- how many words a key takes in a segment: a cell where it has a record, else a record too
abbrev pub TakesWords : Layout → List ℕ → KeyNumbers → ℕ → Type 0
TakesWords layout words key count =
    (((at : ℕ) × IsRecordOf layout words key at) × (count ≡ 2)) ⊎ (((at : ℕ) → ¬ IsRecordOf layout words key at) × (count ≡ 8))

-- how many words the keys of a lane take in its own segment
abbrev pub TakeWords : Layout → Heap → ℕ → List KeyNumbers → ℕ → Type 0
TakeWords layout heap lane [] count = count ≡ 0
TakeWords layout heap lane (key ∷ keys) count =
    (own rest : ℕ) × (count ≡ own + rest) × TakeWords layout heap lane keys rest
    × (((layout.lane_of key ≡ lane) × TakesWords layout (segment_of heap (own_of heap lane)) key own) ⊎ ((layout.lane_of key ≢ lane) × (own ≡ 0)))

abbrev pub free_words : Heap → ℕ → ℕ
free_words heap lane = segment_len - free_of (segment_of heap (own_of heap lane))

-- the lane's own segment is this one, and has fewer free words than the keys take there
pub record IsShort (layout : Layout) (keys : List KeyNumbers) (lane segment free needs : ℕ) (heap : Heap) : Type 0 where
  pub own : own_of heap lane ≡ segment
  pub free_is : free ≡ free_words heap lane
  pub needs_is : TakeWords layout heap lane keys needs
  pub fewer : free < needs

-- it is the lowest such lane
pub record LacksRoom (layout : Layout) (keys : List KeyNumbers) (lane segment free needs : ℕ) (heap : Heap) : Type 0 where
  pub short : IsShort layout keys lane segment free needs heap
  pub lowest : (other : ℕ) → other < lane → (count : ℕ) → TakeWords layout heap other keys count → count ≤ free_words heap other

-- every lane has room
abbrev pub HasRoomFor : Layout → List KeyNumbers → Heap → Type 0
HasRoomFor layout keys heap = (lane : ℕ) → lane < length heap.lanes → (count : ℕ) → TakeWords layout heap lane keys count → count ≤ free_words heap lane
