use Rattle.std.proofs.Common.{rules}
use Rattle.ring_state.proofs.member.front_after.Goals as goal

pub returns-in-Stopped : goal.returns-in-Stopped
returns-in-Stopped c = search rules
