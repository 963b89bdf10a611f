-- When the words of a heap are an index of word lists.
use Rattle.std.specs.Prelude.{◌≡◌, ◌≢◌, ◌⊎◌, ◌↔◌, ℕ, ◌+◌, ◌-◌, ◌/◌, ◌<◌, ◌≤◌, ◌==◌, List, [], length, slice_index, slice_index_or, take, sum, Contains, if◌then◌else◌}
use Rattle.std.specs.List.{All, flat_map, range_with_len, sum_by}
use Rattle.tx_model.specs.declared.gate.TheConstants.{GATE_UNUSED, GATE_OPEN, GATE_SEALED, GATE_PACKED}
use Rattle.mail_words.specs.Key.{KeyNumbers}
use Rattle.tx_heap.specs.Layout.{Layout}
use Rattle.tx_heap.specs.Pairwise.{Pairwise}
use Rattle.tx_heap.specs.Segment.{Row, open_rows, IsInForm, HaveCells}
use Rattle.tx_heap.specs.Packed.{packed_rows, IsPacked, AreOfLane}
use Rattle.tx_heap.specs.Heap.{Heap, own_of, gate_of, segment_of, need_of, lane_segments, unused_of}

-- ---- which segments are in use
-- nothing was done to the segment yet
pub record IsUnused (heap : Heap) (segment : ℕ) : Type 0 where
  pub gate : gate_of heap segment ≡ GATE_UNUSED
  pub link : slice_index heap.links segment ≡ 0
  pub words : All (λ word. word ≡ 0) (segment_of heap segment)

-- the segments below the pool are in use, each in one lane; a lane's own segment is open; links lead to lower segments
pub record HasLanes (heap : Heap) : Type 0 where
  pub gates : length heap.gates ≡ length heap.segments
  pub links : length heap.links ≡ length heap.segments
  pub pool : heap.pool ≤ length heap.segments
  pub own : (lane : ℕ) → lane < length heap.lanes → (1 ≤ slice_index heap.lanes lane) × (slice_index heap.lanes lane ≤ heap.pool)
  pub own_open : (lane : ℕ) → lane < length heap.lanes → gate_of heap (own_of heap lane) ≡ GATE_OPEN
  pub fall : (segment : ℕ) → segment < heap.pool → slice_index heap.links segment ≤ segment
  pub reached : (segment : ℕ) → segment < heap.pool → (lane : ℕ) × (lane < length heap.lanes) × Contains (lane_segments heap lane) segment
  pub one_lane : (segment lane other : ℕ) → lane < length heap.lanes → other < length heap.lanes
      → Contains (lane_segments heap lane) segment → Contains (lane_segments heap other) segment → lane ≡ other
  pub unused : (segment : ℕ) → heap.pool ≤ segment → segment < length heap.segments → IsUnused heap segment

-- ---- what is in them
-- the words have the form that goes with the gate: open and sealed segments are read by their chains, packed ones by their table
abbrev pub IsSegment : Layout → ℕ → ℕ → List ℕ → Type 0
IsSegment layout lane gate words =
    (((gate ≡ GATE_OPEN) ⊎ (gate ≡ GATE_SEALED)) × IsInForm layout lane words)
    ⊎ ((gate ≡ GATE_PACKED) × IsPacked words × AreOfLane layout lane words)

abbrev pub HasSegments : Layout → Heap → Type 0
HasSegments layout heap =
    (lane segment : ℕ) → lane < length heap.lanes → Contains (lane_segments heap lane) segment
    → IsSegment layout lane (gate_of heap segment) (segment_of heap segment)

-- each record of an open or sealed segment has a cell
abbrev pub HasCells : Layout → Heap → Type 0
HasCells layout heap =
    (segment : ℕ) → segment < heap.pool → gate_of heap segment ≢ GATE_PACKED → HaveCells layout (segment_of heap segment)

-- ---- rows
abbrev pub rows_in : Layout → ℕ → List ℕ → List Row
rows_in layout gate words = if gate == GATE_PACKED then packed_rows words else open_rows layout words

abbrev pub rows_at : Layout → Heap → ℕ → List Row
rows_at layout heap segment = rows_in layout (gate_of heap segment) (segment_of heap segment)

-- the rows of the segments in use
abbrev pub rows_of : Layout → Heap → List Row
rows_of layout heap = flat_map (rows_at layout heap) (range_with_len 0 heap.pool)

abbrev pub list_of : List (List KeyNumbers) → ℕ → List KeyNumbers
list_of lists message = slice_index_or lists (message - 1) []

-- the keys of a message that are in the index: all of its list but as many as are still to come
abbrev pub added_keys : List (List KeyNumbers) → Heap → ℕ → List KeyNumbers
added_keys lists heap message =
    take (length (list_of lists message) - need_of heap message) (list_of lists message)

abbrev pub IsAdded : List (List KeyNumbers) → Heap → Row → Type 0
IsAdded lists heap row = (1 ≤ row.1) × (row.1 ≤ length lists) × Contains (added_keys lists heap row.1) row.0

-- the rows are the words added so far, each once
pub record HasRows (layout : Layout) (lists : List (List KeyNumbers)) (heap : Heap) : Type 0 where
  pub needs : length heap.needs ≡ length lists
  pub to_come : (message : ℕ) → 1 ≤ message → message ≤ length lists → need_of heap message ≤ length (list_of lists message)
  pub once : Pairwise ◌≢◌ (rows_of layout heap)
  pub exactly : (row : Row) → Contains (rows_of layout heap) row ↔ IsAdded lists heap row

-- ---- room
-- the rows in the lanes' own segments
abbrev pub own_rows : Layout → Heap → ℕ
own_rows layout heap = sum_by (λ number. length (rows_at layout heap (number - 1))) heap.lanes

-- there are unused segments for all words that are still to come
abbrev pub HasRoom : Layout → Heap → Type 0
HasRoom layout heap = (sum heap.needs + own_rows layout heap) / layout.least_rows ≤ unused_of heap

-- ---- the index
-- an index in which a record may have no cell yet
pub record IsIndex (layout : Layout) (heap : Heap) : Type 0 where
  pub lanes : HasLanes heap
  pub segments : HasSegments layout heap

-- an index in which a fresh segment may be taken
pub record MayGrow (layout : Layout) (heap : Heap) : Type 0 where
  pub index : IsIndex layout heap
  pub cells : HasCells layout heap
  pub room : HasRoom layout heap

-- an index of these word lists
pub record IsGoodIndex (layout : Layout) (lists : List (List KeyNumbers)) (heap : Heap) : Type 0 where
  pub grows : MayGrow layout heap
  pub rows : HasRows layout lists heap
