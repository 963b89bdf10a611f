use Rattle.std.proofs.Common.{rules}
use Rattle.ring_core.proofs.caller.Caller.begin_from.Goals as goal

pub returns-else-before-at : goal.returns-else-before-at
returns-else-before-at c = search rules
