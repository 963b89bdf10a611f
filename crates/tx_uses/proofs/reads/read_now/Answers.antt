-- The value is that of the state that the attempt read from.
use Rattle.std.proofs.Common.{arith}
use Rattle.std.proofs.lemmas.Grind.{common_steps}
use Rattle.tx_uses.proofs.ReadSteps.{had_value}
use Rattle.tx_uses.proofs.reads.read_now.Goals as goal

pub returns-clause-had : goal.returns-clause-had
returns-clause-had g c = had_value c.state_laws.ensures.stays c.begin.ensures.began c.in_ok-value.ensures.read c.give_up.ensures.ended

pub returns-in_err-value-clause-later : goal.returns-in_err-value-clause-later
returns-in_err-value-clause-later g c = grind (arith, common_steps)

pub returns-clause-later : goal.returns-clause-later
returns-clause-later g c = grind (arith, common_steps)
