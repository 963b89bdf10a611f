use Rattle.std.proofs.lemmas.Grind.{common_steps}
use Rattle.std.proofs.Common.{arith}
use Rattle.tx_heap.proofs.memory.opening_words.Goals as goal

pub returns-clause-opening : goal.returns-clause-opening
returns-clause-opening c = grind (arith, common_steps)
