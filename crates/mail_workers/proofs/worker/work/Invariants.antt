-- The messages drawn so far are in the index.
use Rattle.std.proofs.Common.{◌≡◌, ◌++◌}
use Rattle.tx_model.specs.declared.pass.PassState.TheVariants.{Idle}
use Rattle.mail_workers.specs.JobPasses.{IsJobPassOf, job_view}
use Rattle.mail_workers.specs.Indexing.{HasMoved, AreFinished}
use Rattle.mail_workers.proofs.worker.work.Given as goal

abbrev pub invariant-loop : goal.invariant-loop
invariant-loop g l =
    let view = g.M.TxMemory.view in
    let made = g.M.TxMemory.made l.mem in
    record {
      of : g.M.TxMemory.of l.mem l.pass;
      idle : (view l.pass).state ≡ Idle;
      moved : HasMoved made (view l.fn.pass) (view l.pass);
      mine : IsJobPassOf l.jobs l.mine;
      total : (job_view l.mine).total ≡ (job_view l.fn.mine).total;
      share : (job_view l.mine).share ≡ (job_view l.fn.mine).share;
      drawn : (job_view l.mine).drawn ≡ (job_view l.fn.mine).drawn ++ l.drawn.items;
      finished : AreFinished made (view l.fn.pass).front (job_view l.fn.mine).drawn (job_view l.mine).drawn (view l.pass);
    }
