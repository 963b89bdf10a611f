use Rattle.std.proofs.Common.{refl}
use Rattle.tx_model.specs.Words.{index_of}
use Rattle.tx_model.proofs.laws.words.value_examples.Goals as goal

pub returns : goal.returns
unfolding index_of
returns c = record { found = refl; none = refl }
