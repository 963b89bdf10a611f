-- word 0 is 1, and was read as 2
use Rattle.std.proofs.Common.{arith}
use Rattle.tx_model.specs.Words.{no_word}
use Rattle.tx_model.proofs.ExamplesFacts.{same_number}
use Rattle.tx_model.proofs.laws.examples.commit_examples.Goals as goal

pub returns-clause-fits_not : goal.returns-clause-fits_not
returns-clause-fits_not c fits = omega (arith, same_number 1 2 (fits.reads 0 no_word (omega arith)))
