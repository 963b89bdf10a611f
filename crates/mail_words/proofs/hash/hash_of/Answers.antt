use Rattle.std.proofs.Common.{rules}
use Rattle.mail_words.proofs.hash.hash_of.Goals as goal

pub returns : goal.returns
returns c = search rules
