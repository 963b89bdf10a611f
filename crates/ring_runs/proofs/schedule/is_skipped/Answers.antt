use Rattle.std.proofs.Common.{rules}
use Rattle.ring_runs.proofs.schedule.is_skipped.Goals as goal

pub returns-then-read-event-2 : goal.returns-then-read-event-2
returns-then-read-event-2 c = search rules
