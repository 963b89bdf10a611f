use Rattle.std.proofs.Common.{rules}
use Rattle.ring_words.proofs.ring.Ring.turn_step.Goals as goal

pub returns-in-Some-clause-of : goal.returns-in-Some-clause-of
returns-in-Some-clause-of g c = search rules

pub returns-in-Some-clause-step : goal.returns-in-Some-clause-step
returns-in-Some-clause-step g c = search rules

pub returns-in-None-clause-step : goal.returns-in-None-clause-step
returns-in-None-clause-step g c = search rules

pub returns-in-None-clause-steps : goal.returns-in-None-clause-steps
returns-in-None-clause-steps g c = search rules

pub returns-in-None-clause-ends : goal.returns-in-None-clause-ends
returns-in-None-clause-ends g c = search rules
