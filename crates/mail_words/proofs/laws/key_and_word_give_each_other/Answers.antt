use Rattle.mail_words.specs.Key.{lowered}
use Rattle.mail_words.proofs.Keys.{lowered-word, lowered-lower, word_of-key_of, is_key-key_of}
use Rattle.mail_words.proofs.laws.key_and_word_give_each_other.Goals as goal

pub returns-clause-word : goal.returns-clause-word
returns-clause-word c = λ word is. word_of-key_of (lowered word) (lowered-word word is)

pub returns-clause-key : goal.returns-clause-key
returns-clause-key c = λ word is. is_key-key_of (lowered word) (lowered-word word is) (lowered-lower word)
