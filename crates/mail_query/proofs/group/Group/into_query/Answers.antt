use Rattle.std.proofs.Common.{rules}
use Rattle.mail_query.proofs.group.Group.into_query.Goals as goal

pub returns-in-Ok : goal.returns-in-Ok
returns-in-Ok c = search rules
