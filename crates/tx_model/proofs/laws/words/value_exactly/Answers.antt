use Rattle.tx_model.proofs.lemmas.WordIndexes.{value_exactly}
use Rattle.tx_model.proofs.laws.words.value_exactly.Goals as goal

pub returns : goal.returns
returns c = value_exactly
