-- The passes so far were split off.
use Rattle.std.proofs.Common.{◌≡◌, ◌≤◌, vec_capacity, vec_len}
use Rattle.tx_model.specs.declared.pass.PassState.TheVariants.{Idle}
use Rattle.mail_workers.specs.JobPasses.{IsJobPassOf, job_view}
use Rattle.mail_workers.specs.Workers.{HasGained, AreHired}
use Rattle.mail_workers.proofs.run.hire.Given as goal

abbrev pub invariant-loop-number : goal.invariant-loop-number
invariant-loop-number g l =
    let view = g.M.TxMemory.view in
    let made = g.M.TxMemory.made l.mem in
    record {
      of : g.M.TxMemory.of l.mem l.pass;
      idle : (view l.pass).state ≡ Idle;
      mine : IsJobPassOf l.jobs l.mine;
      total : (job_view l.mine).total ≡ (job_view l.fn.mine).total;
      gained : HasGained made (view l.fn.pass) (job_view l.fn.mine).drawn (view l.pass) (job_view l.mine).drawn;
      front : (view l.pass).front ≡ (view l.fn.pass).front;
      hired : AreHired (g.M.TxMemory.of l.mem) view made l.jobs (view l.fn.pass).front (view l.fn.pass).share (job_view l.fn.mine).share (view l.pass).share
          (job_view l.mine).share l.workers.items;
      each : vec_len l.workers ≡ l.number;
      room : l.count ≤ vec_capacity l.workers;
    }
