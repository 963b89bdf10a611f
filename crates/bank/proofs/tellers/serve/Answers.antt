use Rattle.std.proofs.Common.{arith}
use Rattle.std.proofs.lemmas.Grind.{common_steps}
use Rattle.bank.proofs.tellers.serve.Goals as goal

pub loop-order-preserved : goal.loop-order-preserved
loop-order-preserved g c = grind (arith, common_steps)
