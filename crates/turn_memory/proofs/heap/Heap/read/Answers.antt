use Rattle.std.proofs.lemmas.Grind.{common_steps}
use Rattle.std.proofs.Common.{arith}
use Rattle.turn_memory.proofs.heap.Heap.read.Goals as goal

pub returns-clause-value : goal.returns-clause-value
returns-clause-value c = grind (arith, common_steps)

pub returns-clause-heap : goal.returns-clause-heap
returns-clause-heap c = grind (arith, common_steps)
