use Rattle.std.proofs.Common.{rules}
use Rattle.mail_search.proofs.lists.lists_in.Goals as goal

pub returns-in_err-messages : goal.returns-in_err-messages
returns-in_err-messages g c = search rules
