-- The ring was whole, and all words were in its index.
use Rattle.mail_index.proofs.Ended.{ended}
use Rattle.mail_index.proofs.indexing.close_index.Goals as goal

pub returns : goal.returns
returns c = ended c.pass_knows.ensures c.requires.indexed c.close.ensures.ending
