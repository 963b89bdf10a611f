-- Some steps were made, and the request goes on. Each step leaves fewer.
use Rattle.std.proofs.Common.{◌≡◌, ℕ, None, length}
use Rattle.ring_core.specs.Steps.{steps_left}
use Rattle.ring_worlds.specs.Calls.{process_at}
use Rattle.ring_runs.specs.Trace.{Makes}
use Rattle.ring_runs.proofs.acts.run.Given as goal

abbrev pub invariant-loop-world : goal.invariant-loop-world
invariant-loop-world l = record {
  makes : (made : ℕ) × Makes l.fn.world l.who made l.world None;
  callers : length l.world.processes ≡ length l.fn.world.processes;
}

abbrev pub decreases-loop-world : goal.decreases-loop-world
decreases-loop-world l = steps_left l.world.shape (process_at l.world l.who).caller
