-- So many callers are there.
use Rattle.std.proofs.Common.{◌≡◌, replicate}
use Rattle.ring_state.specs.Plain.{resting_member}
use Rattle.ring_state.proofs.plain.resting_members.Given as goal

abbrev pub invariant-loop : goal.invariant-loop
invariant-loop l = l.members.items ≡ replicate l.counter (resting_member l.setup.shape)
