use Rattle.mail_query.proofs.Examples.{bar_read, bang_read}
use Rattle.mail_query.proofs.laws.queries.what_binds_tighter.Goals as goal

pub returns-clause-bar : goal.returns-clause-bar
returns-clause-bar c = bar_read

pub returns-clause-bang : goal.returns-clause-bang
returns-clause-bang c = bang_read
