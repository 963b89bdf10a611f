use Rattle.tx_model.proofs.lemmas.States.{after_length}
use Rattle.tx_model.proofs.AfterWords.{after_word}
use Rattle.tx_model.proofs.laws.memories.memory_laws.Goals as goal

pub returns : goal.returns
returns c = record { length = after_length; words = after_word }
