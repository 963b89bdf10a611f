use Rattle.std.proofs.Common.{rules}
use Rattle.ring_core.proofs.caller.Caller.stamp_slot.Goals as goal

pub returns-else-next-shape : goal.returns-else-next-shape
returns-else-next-shape c = search rules
