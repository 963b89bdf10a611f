use Rattle.mail_query.proofs.Worked.{keys_without_ring}
use Rattle.mail_query.proofs.laws.answers.keys_of_a_query.Goals as goal

pub returns : goal.returns
returns c = keys_without_ring
