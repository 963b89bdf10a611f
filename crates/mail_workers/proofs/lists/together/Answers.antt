use Rattle.std.proofs.Common.{rules}
use Rattle.mail_workers.proofs.lists.together.Goals as goal

pub returns-in-Ok-clause-exactly_too_many : goal.returns-in-Ok-clause-exactly_too_many
returns-in-Ok-clause-exactly_too_many c = search rules
