use Rattle.std.proofs.Common.{refl}
use Rattle.tx_model.specs.Words.{index_of}
use Rattle.turn_memory.proofs.laws.heap_examples.Goals as goal

pub returns-clause-written : goal.returns-clause-written
unfolding index_of
returns-clause-written c = refl

pub returns-clause-again : goal.returns-clause-again
unfolding index_of
returns-clause-again c = refl

pub returns-clause-read : goal.returns-clause-read
unfolding index_of
returns-clause-read c = (refl, refl)

pub returns-clause-values : goal.returns-clause-values
unfolding index_of
returns-clause-values c = (refl, refl)
