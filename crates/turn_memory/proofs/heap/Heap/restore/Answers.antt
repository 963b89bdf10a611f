use Rattle.std.proofs.Common.{rules}
use Rattle.turn_memory.proofs.heap.Heap.restore.Goals as goal

pub returns : goal.returns
returns c = search rules
