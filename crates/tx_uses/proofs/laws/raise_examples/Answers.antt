-- The word would have to be 9 and 8, and the other one 0 and 9.
use Rattle.std.proofs.Common.{arith}
use Rattle.tx_uses.proofs.laws.raise_examples.Goals as goal

pub returns-clause-not_raised : goal.returns-clause-not_raised
returns-clause-not_raised c =
    (λ is. omega (arith, is.greater), λ is. omega (arith, is.others 2 (omega arith) (omega arith)))
