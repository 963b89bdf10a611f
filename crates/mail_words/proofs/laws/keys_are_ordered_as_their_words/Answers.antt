use Rattle.mail_words.proofs.Order.{key_cmp-words}
use Rattle.mail_words.proofs.laws.keys_are_ordered_as_their_words.Goals as goal

pub returns : goal.returns
returns c = key_cmp-words
