use Rattle.std.proofs.Common.{rules}
use Rattle.mail_search.proofs.outcome.outcome_of.Goals as goal

pub returns-in-Ok-clause-closed : goal.returns-in-Ok-clause-closed
returns-in-Ok-clause-closed g c = search rules
