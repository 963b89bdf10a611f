use Rattle.mail_query.proofs.Examples.{spaces_read, spaces_print}
use Rattle.mail_query.proofs.laws.queries.spaces_and_capitals.Goals as goal

pub returns-clause-reads : goal.returns-clause-reads
returns-clause-reads c = spaces_read

pub returns-clause-prints : goal.returns-clause-prints
returns-clause-prints c = spaces_print
