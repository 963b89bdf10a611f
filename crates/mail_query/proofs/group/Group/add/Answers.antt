use Rattle.std.proofs.Common.{rules}
use Rattle.mail_query.proofs.group.Group.add.Goals as goal

pub returns : goal.returns
returns c = search rules
