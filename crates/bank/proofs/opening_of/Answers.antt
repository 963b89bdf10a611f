use Rattle.std.proofs.Common.{arith}
use Rattle.std.proofs.lemmas.Grind.{common_steps}
use Rattle.bank.proofs.opening_of.Goals as goal

pub returns-in-Ok-extend_from_slice-clause-money : goal.returns-in-Ok-extend_from_slice-clause-money
returns-in-Ok-extend_from_slice-clause-money c = grind (arith, common_steps)
