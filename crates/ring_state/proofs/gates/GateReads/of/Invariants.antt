-- There is room for the gates of all regions.
use Rattle.std.proofs.Common.{◌≡◌, ◌≤◌, length, vec_len, vec_capacity}
use Rattle.ring_state.proofs.gates.GateReads.of.Given as goal

abbrev pub invariant-loop-region : goal.invariant-loop-region
invariant-loop-region l = record { count : vec_len l.gates ≡ l.region-index; room : length l.regions ≤ vec_capacity l.gates }
