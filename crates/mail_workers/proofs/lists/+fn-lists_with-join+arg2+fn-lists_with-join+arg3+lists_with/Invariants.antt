use Rattle.std.proofs.Common.{◌-◌}
use Rattle.mail_workers.proofs.lists.+fn-lists_with-join+arg2+fn-lists_with-join+arg3+lists_with.Given as goal

abbrev pub decreases-join+arg2 : goal.decreases-join+arg2
decreases-join+arg2 g l = l.half

abbrev pub decreases-join+arg3 : goal.decreases-join+arg3
decreases-join+arg3 g l = l.workers - l.half

abbrev pub decreases-lists_with : goal.decreases-lists_with
decreases-lists_with g l = l.workers
