-- A fresh segment in front of a lane's own one.
use Rattle.std.specs.Prelude.{◌≡◌, ℕ, ◌+◌, ◌<◌, List, length, slice_set}
use Rattle.tx_model.specs.declared.gate.TheConstants.{GATE_OPEN}
use Rattle.tx_heap.specs.Layout.{Layout, segment_len, full_below}
use Rattle.tx_heap.specs.Segment.{first_at, free_of}
use Rattle.tx_heap.specs.Heap.{Heap, own_of, segment_of}

-- the segment has so few free words that a batch may not fit
abbrev pub IsFull : List ℕ → Type 0
IsFull words = segment_len < free_of words + full_below

-- the lane's own segment is that one, and it is full
pub record IsOwnFull (lane segment : ℕ) (heap : Heap) : Type 0 where
  pub own : own_of heap lane ≡ segment
  pub full : IsFull (segment_of heap segment)

-- there is an unused segment
abbrev pub HasUnused : Heap → Type 0
HasUnused heap = heap.pool < length heap.segments

-- the heap with the first unused segment open, empty, linked to that one, and the lane's own
abbrev pub with_fresh : Layout → ℕ → ℕ → Heap → Heap
with_fresh layout lane before heap = record {
  pool = heap.pool + 1;
  lanes = slice_set heap.lanes lane (heap.pool + 1);
  needs = heap.needs;
  gates = slice_set heap.gates heap.pool GATE_OPEN;
  links = slice_set heap.links heap.pool (before + 1);
  segments = slice_set heap.segments heap.pool (slice_set (segment_of heap heap.pool) 0 (first_at layout));
}
