-- The passes that are left, joined as well, give the shares; the pass came to what those that are joined came to.
use Rattle.std.proofs.Common.{◌≡◌, ℕ, List, map, All, vec_len}
use Rattle.tx_model.specs.declared.pass.PassState.TheVariants.{Idle}
use Rattle.tx_model.specs.declared.view.PassView.{PassView}
use Rattle.mail_workers.specs.JobPasses.{IsJobPassOf, job_view}
use Rattle.mail_workers.specs.Workers.{HasGained, HasIndexed, IsReady, share_of, job_share_of, joined_back}
use Rattle.mail_workers.proofs.run.dismiss.Given as goal

abbrev pub decreases-loop-worker : goal.decreases-loop-worker
decreases-loop-worker g l = vec_len l.workers

abbrev pub invariant-loop-worker : goal.invariant-loop-worker
invariant-loop-worker g l =
    let view = g.M.TxMemory.view in
    let made = g.M.TxMemory.made l.mem in
    record {
      of : g.M.TxMemory.of l.mem l.pass;
      idle : (view l.pass).state ≡ Idle;
      mine : IsJobPassOf l.jobs l.mine;
      total : (job_view l.mine).total ≡ (job_view l.fn.mine).total;
      ready : All (IsReady (g.M.TxMemory.of l.mem) view made l.jobs) l.workers.items;
      share : joined_back (view l.pass).share (map (share_of view) l.workers.items)
          ≡ joined_back (view l.fn.pass).share (map (share_of view) l.fn.workers.items);
      job_share : joined_back (job_view l.mine).share (map job_share_of l.workers.items)
          ≡ joined_back (job_view l.fn.mine).share (map job_share_of l.fn.workers.items);
      gained : (first : PassView) (before : List ℕ) → All (HasIndexed view made first.front) l.fn.workers.items
          → HasGained made first before (view l.fn.pass) (job_view l.fn.mine).drawn
          → All (HasIndexed view made first.front) l.workers.items × HasGained made first before (view l.pass) (job_view l.mine).drawn;
    }
