use Rattle.std.proofs.Common.{rules}
use Rattle.mail_words.specs.Hash.{mixed}
use Rattle.mail_words.proofs.hash.mixed.Goals as goal

pub returns : goal.returns
unfolding mixed
returns c = search rules
