use Rattle.std.proofs.Common.{rules}
use Rattle.ring_core.proofs.caller.Caller.add_read.Goals as goal

pub returns : goal.returns
returns c = search rules
