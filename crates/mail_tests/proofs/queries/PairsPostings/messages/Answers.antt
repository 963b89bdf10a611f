use Rattle.std.proofs.Common.{arith}
use Rattle.std.proofs.lemmas.Grind.{common_steps}
use Rattle.mail_tests.proofs.queries.PairsPostings.messages.Goals as goal

pub loop-pair-preserved : goal.loop-pair-preserved
loop-pair-preserved c = grind (arith, common_steps)

pub returns-clause-list : goal.returns-clause-list
returns-clause-list c = grind (arith, common_steps)
