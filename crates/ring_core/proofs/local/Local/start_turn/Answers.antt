use Rattle.std.proofs.Common.{arith}
use Rattle.std.proofs.lemmas.Grind.{common_steps}
use Rattle.ring_core.proofs.local.Local.start_turn.Goals as goal

pub returns-in-Between-clause-steps : goal.returns-in-Between-clause-steps
returns-in-Between-clause-steps c = grind (arith, common_steps)
