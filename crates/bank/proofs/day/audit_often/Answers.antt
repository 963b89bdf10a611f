use Rattle.std.proofs.Common.{arith}
use Rattle.std.proofs.lemmas.Grind.{common_steps}
use Rattle.bank.proofs.day.audit_often.Goals as goal

pub loop-audit-preserved : goal.loop-audit-preserved
loop-audit-preserved g c = grind (arith, common_steps)
