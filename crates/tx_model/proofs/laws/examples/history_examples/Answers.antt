-- word 0 is 2 before the second commit, which read 1
use Rattle.std.proofs.Common.{refl, arith}
use Rattle.tx_model.specs.Words.{no_word}
use Rattle.tx_model.proofs.ExamplesFacts.{same_number}
use Rattle.tx_model.proofs.laws.examples.history_examples.Goals as goal

pub returns-clause-not_legal : goal.returns-clause-not_legal
returns-clause-not_legal c legal = omega (arith, same_number 2 1 (legal 1 _ refl 0 no_word (omega arith)))
