-- One pass of each kind more was split off.
use Rattle.std.proofs.Common.{◌∙◌, ◌+◌, All, sym, ap, ap₂, subst, arith, refl, Ok, rules}
use Rattle.std.proofs.lemmas.List.Elements.{All-push}
use Rattle.tx_model.specs.Shares.{joined}
use Rattle.mail_workers.specs.declared.run.Worker.{Worker}
use Rattle.mail_workers.specs.JobPasses.{job_view}
use Rattle.mail_workers.specs.Workers.{IsReady, HasIndexed, share_of, job_share_of}
use Rattle.mail_workers.proofs.Teams.{front_step, gained_same, indexed_nothing}
use Rattle.mail_workers.proofs.run.hire.Goals as goal

pub returns-in-Err-clause-gained : goal.returns-in-Err-clause-gained
returns-in-Err-clause-gained g c =
    let so_far = c.loop-number.invariant in
    let same = c.in-Err.ensures.unchanged in
    c.dismiss-outcome.ensures.gained (g.M.TxMemory.view c.args.pass.now) (job_view c.args.mine.now).drawn so_far.hired.indexed
    (gained_same so_far.gained (ap (λ v. v.history) same) (ap (λ v. v.front) same) (ap (λ v. v.mine) same) (ap (λ v. v.owned) same) refl)

pub loop-number-preserved : goal.loop-number-preserved
loop-number-preserved g c =
    let view = g.M.TxMemory.view in
    let made = g.M.TxMemory.made c.args.mem.now in
    let so_far = c.loop-number.invariant in
    let knows = c.pass_knows.ensures in
    let given = c.in-Ok-split.ensures.given in
    let kept = c.in-Ok-split.ensures.kept in
    let job = c.in-Ok-split-2.ensures in
    let items = c.push_reserved.ensures.items in
    let old = c.loop-number.workers.items in
    let all = c.push_reserved.new.self.items in
    let front = (view c.args.pass.now).front in
    let Ready = IsReady (g.M.TxMemory.of c.args.mem.now) view made c.args.jobs.now in
    let worker : Worker g.row.M-Pass.Denot =
    record {
      pass = c.in-Ok-split.other;
      mine = c.in-Ok-split-2.other_mine;
      number = c.loop-number.number + 1;
      outcome = Ok (record { drawn = c.of.result });
    } in
    let ready : Ready worker = record {
      of_pass = given.0;
      idle = ap (λ v. v.state) given.1;
      of_mine = job.of.1;
      filled = ap (λ v. v.total) job.given ∙ so_far.total ∙ c.requires.filled;
      owns_none = ap (λ v. v.owned) given.1;
    } in
    let indexed : HasIndexed view made front worker =
    indexed_nothing front (omega (arith, ap (λ v. v.front) given.1, so_far.front)) (ap (λ v. v.mine) given.1) (ap (λ v. v.drawn) job.given) in
    record {
      of = c.in-Ok-split.ensures.of;
      idle = ap (λ v. v.state) kept ∙ so_far.idle;
      mine = job.of.0;
      total = ap (λ v. v.total) job.kept ∙ so_far.total;
      gained = gained_same so_far.gained (ap (λ v. v.history) kept) (ap (λ v. v.front) kept) (ap (λ v. v.mine) kept) (ap (λ v. v.owned) kept)
          (ap (λ v. v.drawn) job.kept);
      front = ap (λ v. v.front) kept ∙ so_far.front;
      hired = record {
        ready = subst (All Ready) (sym items) (All-push Ready old worker so_far.hired.ready ready);
        indexed = subst (All (HasIndexed view made front)) (sym items) (All-push (HasIndexed view made front) old worker so_far.hired.indexed indexed);
        shares = front_step (share_of view) (view c.loop-number.pass).share (view c.split.new.pass).share (view c.args.pass.now).share old all worker items
            (ap₂ joined (ap (λ v. v.share) kept) (ap (λ v. v.share) given.1)
            ∙ c.rejoined_share.ensures _ knows.names_apart knows.joined knows.named) so_far.hired.shares;
        job_shares = front_step job_share_of _ _ _ old all worker items job.rejoined so_far.hired.job_shares;
      };
      each = omega (arith, c.push_reserved.ensures.len, so_far.each);
      room = omega (arith, so_far.room, c.push_reserved.ensures.capacity);
    }

pub returns-in-Err-clause-job_share : goal.returns-in-Err-clause-job_share
returns-in-Err-clause-job_share g c = search rules
