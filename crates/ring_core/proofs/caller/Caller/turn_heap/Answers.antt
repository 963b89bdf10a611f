use Rattle.std.proofs.Common.{rules}
use Rattle.ring_core.proofs.caller.Caller.turn_heap.Goals as goal

pub returns : goal.returns
returns c = search rules
