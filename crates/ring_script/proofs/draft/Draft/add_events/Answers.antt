use Rattle.std.proofs.lemmas.Grind.{common_steps}
use Rattle.std.proofs.Common.{arith, rules}
use Rattle.ring_script.proofs.draft.Draft.add_events.Goals as goal

pub overflow_add-self : goal.overflow_add-self
overflow_add-self c = search rules

pub returns-in_ok-push_event-2 : goal.returns-in_ok-push_event-2
returns-in_ok-push_event-2 c = grind (arith, common_steps)

pub returns-else-asked : goal.returns-else-asked
returns-else-asked c = search rules
