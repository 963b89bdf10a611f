use Rattle.std.proofs.Common.{arith}
use Rattle.std.proofs.lemmas.Grind.{common_steps}
use Rattle.mail_query.proofs.query.Queries.into_only.Goals as goal

pub returns-clause-only : goal.returns-clause-only
returns-clause-only c = grind (arith, common_steps)
