-- The regions so far are those of the segments below.
use Rattle.std.proofs.Common.{◌≡◌, map}
use Rattle.std.specs.List.{range_with_len}
use Rattle.tx_heap.specs.Layout.{region_of}
use Rattle.tx_heap.proofs.plan.Plan.regions.Given as goal

abbrev pub invariant-loop-segment : goal.invariant-loop-segment
invariant-loop-segment l = l.regions.items ≡ map (region_of l.self) (range_with_len 0 l.segment)
