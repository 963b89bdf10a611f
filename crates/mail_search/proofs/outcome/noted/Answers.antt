use Rattle.std.proofs.Common.{rules}
use Rattle.mail_search.proofs.outcome.noted.Goals as goal

pub returns-clause-noted : goal.returns-clause-noted
returns-clause-noted g c = search rules
