use Rattle.std.proofs.Common.{rules}
use Rattle.mail_query.proofs.reading.refusal_at.Goals as goal

pub returns-in-Open : goal.returns-in-Open
returns-in-Open c = search rules

pub returns-in_default-5 : goal.returns-in_default-5
returns-in_default-5 c = search rules

pub returns-in_default-2 : goal.returns-in_default-2
returns-in_default-2 c = search rules
