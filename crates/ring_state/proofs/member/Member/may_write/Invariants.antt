-- The regions so far let the attempt write the word.
use Rattle.std.proofs.Common.{ℕ, ◌<◌}
use Rattle.tx_model.specs.Made.{region_at}
use Rattle.ring_worlds.specs.World.{attempt_of}
use Rattle.ring_state.specs.Plain.{process_of}
use Rattle.ring_state.specs.Rule.{LetsWrite}
use Rattle.ring_state.proofs.member.Member.may_write.Given as goal

abbrev pub invariant-loop-region : goal.invariant-loop-region
invariant-loop-region l = (k : ℕ) → k < l.region-index → LetsWrite (attempt_of (process_of l.self)) l.addr l.value (region_at l.regions k)
