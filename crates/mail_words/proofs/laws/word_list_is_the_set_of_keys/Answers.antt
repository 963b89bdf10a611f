use Rattle.std.proofs.Common.{map}
use Rattle.mail_words.specs.Key.{key_of}
use Rattle.mail_words.specs.Words.{words_of}
use Rattle.mail_words.proofs.Rising.{rising-strictly, rising-has, rising-only}
use Rattle.mail_words.proofs.laws.word_list_is_the_set_of_keys.Goals as goal

pub returns-clause-rises : goal.returns-clause-rises
returns-clause-rises c = λ message. rising-strictly (map key_of (words_of message))

pub returns-clause-members : goal.returns-clause-members
returns-clause-members c = λ message key. (rising-only (map key_of (words_of message)) key, rising-has (map key_of (words_of message)) key)
