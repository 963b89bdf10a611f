-- The words of an index by what they are.
use Rattle.std.specs.Prelude.{ℕ, zero, suc, ◌+◌, ◌-◌, ◌*◌, ◌==◌, List, [], ◌∷◌, map, sum, slice_index, slice_index_or, take, drop, count_by, length, if◌then◌else◌}
use Rattle.std.specs.List.{range_with_len}
use Rattle.tx_model.specs.declared.gate.TheConstants.{GATE_SEALED}
use Rattle.tx_model.specs.Memory.{words_in}
use Rattle.tx_heap.specs.Layout.{Sizes, pool_at, lane_at, need_at, gate_at, link_at, region_of}

-- how many segments are in use; for each lane its own segment, as a number plus 1; for each message how many of its
-- words are still to come; for each segment its gate, the one before it in its lane, as a number plus 1, and its words
pub record Heap : Type 0 where
  pub pool : ℕ
  pub lanes : List ℕ
  pub needs : List ℕ
  pub gates : List ℕ
  pub links : List ℕ
  pub segments : List (List ℕ)

-- so many words of the memory, from an address on
abbrev pub words_at : List ℕ → ℕ → ℕ → List ℕ
words_at memory addr count = take count (drop addr memory)

abbrev pub heap_of : Sizes → List ℕ → Heap
heap_of sizes memory = record {
  pool = slice_index memory pool_at;
  lanes = words_at memory (lane_at 0) 8;
  needs = words_at memory (need_at 1) sizes.messages;
  gates = words_at memory (gate_at sizes 0) sizes.segments;
  links = words_at memory (link_at sizes 0) sizes.segments;
  segments = map (λ segment. words_in memory (region_of sizes segment)) (range_with_len 0 sizes.segments);
}

-- the own segment of a lane
abbrev pub own_of : Heap → ℕ → ℕ
own_of heap lane = slice_index heap.lanes lane - 1

abbrev pub gate_of : Heap → ℕ → ℕ
gate_of heap segment = slice_index heap.gates segment

abbrev pub segment_of : Heap → ℕ → List ℕ
segment_of heap segment = slice_index_or heap.segments segment []

-- the need of a message, which count from 1
abbrev pub need_of : Heap → ℕ → ℕ
need_of heap message = slice_index heap.needs (message - 1)

-- the segments from one on, by their links: at most `most` of them
abbrev pub segments_from : Heap → ℕ → ℕ → List ℕ
segments_from heap zero number = []
segments_from heap (suc most) number =
    if number == 0 then [] else (number - 1) ∷ segments_from heap most (slice_index heap.links (number - 1))

-- the segments of a lane, the newest first
abbrev pub lane_segments : Heap → ℕ → List ℕ
lane_segments heap lane = segments_from heap (length heap.segments) (slice_index heap.lanes lane)

-- how many segments are not in use yet
abbrev pub unused_of : Heap → ℕ
unused_of heap = length heap.segments - heap.pool

abbrev pub sealed_of : Heap → ℕ
sealed_of heap = count_by (λ gate. gate == GATE_SEALED) heap.gates

-- how many commits may still come: one at least for each word to come, and two for each segment to be sealed and packed
abbrev pub budget_of : Heap → ℕ
budget_of heap = sum heap.needs + 2 * unused_of heap + sealed_of heap
