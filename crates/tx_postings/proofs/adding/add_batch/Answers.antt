-- A batch is filled and committed.
use Rattle.std.proofs.Common.{◌∙◌}
use Rattle.std.proofs.lemmas.Result.{err_from_is_err_and}
use Rattle.tx_postings.proofs.CommitSteps.{not_added, commit_stopped, commit_worn, has_added, share_not_filled, share_committed}
use Rattle.tx_postings.proofs.adding.add_batch.Goals as goal

pub returns-in_err-left-clause-refused : goal.returns-in_err-left-clause-refused
returns-in_err-left-clause-refused g c =
    let p = err_from_is_err_and c.from_residual.result c.from_residual.ensures.1 in
    rw (p.1, p.2)
    (not_added (g.M.TxMemory.made c.args.mem.now) c.args.message (g.M.TxMemory.shows c.args.mem.now)
    (g.M.TxMemory.view c.fill_batch.new.pass) c.begin.ensures.began c.in_err-left.field-0.0 c.in_err-left.ensures.refused)

pub returns-in-Ok-clause-added : goal.returns-in-Ok-clause-added
returns-in-Ok-clause-added g c = has_added c.begin.ensures.began c.in_ok-left.ensures.filled c.in-Ok.receipt c.in-Ok.ensures.committed c.pass_knows.ensures

pub returns-in-Err-Stopped-clause-refused : goal.returns-in-Err-Stopped-clause-refused
returns-in-Err-Stopped-clause-refused g c =
    commit_stopped c.begin.ensures.began c.in_ok-left.ensures.filled (g.M.TxMemory.shows c.args.mem.now)
    (g.M.TxMemory.view c.commit.new.pass) c.in-Err-Stopped.stop (rw c.in-Err-Stopped.field-0-is at c.in-Err-Stopped.ensures.refused)

pub returns-in-Err-Worn-clause-refused : goal.returns-in-Err-Worn-clause-refused
returns-in-Err-Worn-clause-refused g c =
    commit_worn c.begin.ensures.began c.in_ok-left.ensures.filled
    (rw c.in-Err-Worn.field-0-is at c.in-Err-Worn.ensures.refused) c.pass_knows-in-Err-Worn.ensures

pub returns-in_err-left-clause-share : goal.returns-in_err-left-clause-share
returns-in_err-left-clause-share g c =
    share_not_filled (g.M.TxMemory.made c.args.mem.now) (g.M.TxMemory.view c.begin.new.pass) (g.M.TxMemory.attempt c.begin.new.pass) c.args.message
    (g.M.TxMemory.shows c.args.mem.now) (g.M.TxMemory.view c.fill_batch.new.pass) c.in_err-left.field-0.0 c.in_err-left.ensures.refused
    ∙ c.begin.ensures.began.later.share

pub returns-in-Ok-clause-share : goal.returns-in-Ok-clause-share
returns-in-Ok-clause-share g c = share_committed c.in-Ok.ensures.committed ∙ c.in_ok-left.ensures.filled.goes_on.later.share ∙ c.begin.ensures.began.later.share

pub returns-in-Err-Stopped-clause-share : goal.returns-in-Err-Stopped-clause-share
returns-in-Err-Stopped-clause-share g c =
    (rw c.in-Err-Stopped.field-0-is at c.in-Err-Stopped.ensures.refused).0.later.share ∙ c.in_ok-left.ensures.filled.goes_on.later.share
    ∙ c.begin.ensures.began.later.share

pub returns-in-Err-Worn-clause-share : goal.returns-in-Err-Worn-clause-share
returns-in-Err-Worn-clause-share g c =
    (rw c.in-Err-Worn.field-0-is at c.in-Err-Worn.ensures.refused).ended.later.share ∙ c.in_ok-left.ensures.filled.goes_on.later.share
    ∙ c.begin.ensures.began.later.share
