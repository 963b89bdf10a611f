-- The last of those who are left is joined.
use Rattle.std.proofs.Common.{arith, ◌∙◌}
use Rattle.std.proofs.lemmas.Grind.{elements}
use Rattle.mail_workers.specs.Workers.{HasIndexed, IsReady, share_of, job_share_of}
use Rattle.mail_workers.proofs.Teams.{back_step, all_but_last, last_of}
use Rattle.mail_workers.proofs.run.dismiss.Goals as goal

pub loop-worker-preserved : goal.loop-worker-preserved
loop-worker-preserved g c =
    let view = g.M.TxMemory.view in
    let made = g.M.TxMemory.made c.args.mem.now in
    let so_far = c.loop-worker.invariant in
    let back = c.take_back.ensures in
    let items = c.in-Some.ensures.items in
    let all = c.loop-worker.workers.items in
    let rest = c.pop.new.self.items in
    let last = c.in-Some.worker in
    record {
      of = back.of;
      idle = back.idle;
      mine = back.mine;
      total = back.total ∙ so_far.total;
      ready = all_but_last (IsReady (g.M.TxMemory.of c.args.mem.now) view made c.args.jobs.now) all rest last items so_far.ready;
      share = back_step (share_of view) (view c.loop-worker.pass).share (view c.take_back.new.pass).share all rest last items back.share ∙ so_far.share;
      job_share = back_step job_share_of _ _ all rest last items back.job_share ∙ so_far.job_share;
      gained = λ first before were was.
          let (here, gained) = so_far.gained first before were was in (
            all_but_last (HasIndexed view made first.front) all rest last items here,
            back.gained first before (last_of (HasIndexed view made first.front) all rest last items here) gained,
          );
    }

pub returns-clause-gained : goal.returns-clause-gained
returns-clause-gained g c = λ first before were was. (c.loop-worker.invariant.gained first before were was).1

pub take_back-requires-clause-ready : goal.take_back-requires-clause-ready
take_back-requires-clause-ready g c κs within = grind (arith, elements)
