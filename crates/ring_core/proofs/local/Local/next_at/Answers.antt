use Rattle.std.proofs.Common.{rules}
use Rattle.ring_core.proofs.local.Local.next_at.Goals as goal

pub returns : goal.returns
returns c = search rules
