use Rattle.std.proofs.Common.{refl}
use Rattle.tx_model.specs.Words.{index_of}
use Rattle.tx_model.proofs.laws.examples.attempt_examples.Goals as goal

pub returns : goal.returns
unfolding index_of
returns c = record { gate_value = (refl, refl, refl); reads_after = (refl, refl) }
