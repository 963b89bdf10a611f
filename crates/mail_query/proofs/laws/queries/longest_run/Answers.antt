use Rattle.mail_query.proofs.Examples.{long_read}
use Rattle.mail_query.proofs.laws.queries.longest_run.Goals as goal

pub returns-clause-thirty_two : goal.returns-clause-thirty_two
returns-clause-thirty_two c = long_read
