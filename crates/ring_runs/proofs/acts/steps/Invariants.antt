-- So many steps were made, and the request goes on.
use Rattle.std.proofs.Common.{◌≡◌, None, length}
use Rattle.ring_runs.specs.Trace.{Makes}
use Rattle.ring_runs.proofs.acts.steps.Given as goal

abbrev pub invariant-loop-made : goal.invariant-loop-made
invariant-loop-made l = record {
  makes : Makes l.fn.world l.who l.made l.world None;
  callers : length l.world.processes ≡ length l.fn.world.processes;
}
