use Rattle.std.proofs.Common.{arith}
use Rattle.std.proofs.lemmas.Grind.{elements}
use Rattle.mail_query.proofs.query.Queries.at.Goals as goal

pub returns : goal.returns
returns c = grind (arith, elements)
