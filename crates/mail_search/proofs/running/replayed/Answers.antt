use Rattle.std.proofs.Common.{rules}
use Rattle.mail_search.proofs.running.replayed.Goals as goal

pub returns : goal.returns
returns g c = search rules
