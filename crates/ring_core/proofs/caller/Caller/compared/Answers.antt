use Rattle.std.proofs.Common.{rules}
use Rattle.ring_core.proofs.caller.Caller.compared.Goals as goal

pub returns-then-meets : goal.returns-then-meets
returns-then-meets c = search rules

pub returns-else-meets : goal.returns-else-meets
returns-else-meets c = search rules
