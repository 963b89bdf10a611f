-- The one attempt that counts is the last one.
use Rattle.mail_workers.proofs.Leavings.{has_left, left_moved, commit_never_worn}
use Rattle.mail_workers.proofs.leaving.leave_segment.Goals as goal

pub returns-clause-left : goal.returns-clause-left
returns-clause-left g c = has_left c.atomically.ensures.task c.in-Ok.ensures.done

pub returns-clause-moved : goal.returns-clause-moved
returns-clause-moved g c = left_moved c.pass_knows.ensures (has_left c.atomically.ensures.task c.in-Ok.ensures.done)

pub unreachable-requires : goal.unreachable-requires
unreachable-requires g c =
    commit_never_worn c.pass_knows-in-Err-Worn.ensures c.requires.life (rw c.in-Err-Worn.field-0-is at c.in-Err-Worn.ensures.not_done).worn
