use Rattle.std.proofs.Common.{rules}
use Rattle.ring_core.proofs.caller.Caller.check_index.Goals as goal

pub returns-then-index-self : goal.returns-then-index-self
returns-then-index-self c = search rules
