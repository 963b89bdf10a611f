-- What the search finds late: what the tries so far left is what the last one began with.
use Rattle.std.proofs.Common.{arith}
use Rattle.std.proofs.lemmas.Grind.{common_steps}
use Rattle.tx_model.proofs.trying.atomically.Goals as goal

pub returns-in-Ok-clause-done : goal.returns-in-Ok-clause-done
returns-in-Ok-clause-done g c = grind (arith, common_steps)

pub returns-in-Err-Over-clause-not_done : goal.returns-in-Err-Over-clause-not_done
returns-in-Err-Over-clause-not_done g c = grind (arith, common_steps)

pub loop-preserved : goal.loop-preserved
loop-preserved g c = grind (arith, common_steps)
