use Rattle.std.proofs.Common.{rules}
use Rattle.ring_script.proofs.name.steps_of.Goals as goal

pub returns-then-count-le-MOST_STEPS : goal.returns-then-count-le-MOST_STEPS
returns-then-count-le-MOST_STEPS c = search rules
