-- The words so far are those of the first segments.
use Rattle.std.proofs.Common.{◌≡◌, ◌++◌}
use Rattle.std.specs.List.{flat_map, range_with_len}
use Rattle.tx_heap.specs.Opening.{opening_segment}
use Rattle.tx_heap.proofs.memory.push_segments.Given as goal

abbrev pub invariant-loop-segment : goal.invariant-loop-segment
invariant-loop-segment l = l.words.items ≡ l.fn.words.items ++ flat_map opening_segment (range_with_len 0 l.segment)
