-- The events so far lead to the world.
use Rattle.std.proofs.Common.{take}
use Rattle.ring_runs.specs.Trace.{Leads, first_world}
use Rattle.ring_runs.proofs.schedule.replay.Given as goal

abbrev pub invariant-loop-at : goal.invariant-loop-at
invariant-loop-at l = Leads (first_world l.setup) (take l.at l.events) l.prior l.world l.lines.items
