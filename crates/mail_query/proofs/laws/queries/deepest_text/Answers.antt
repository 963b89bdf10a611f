use Rattle.mail_query.proofs.Examples.{deep_read}
use Rattle.mail_query.proofs.laws.queries.deepest_text.Goals as goal

pub returns-clause-thirty_two : goal.returns-clause-thirty_two
returns-clause-thirty_two c = deep_read
