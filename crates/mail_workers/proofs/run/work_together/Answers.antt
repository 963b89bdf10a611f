-- The workers were hired, worked, and were joined back; then the whole passes looked once more.
use Rattle.std.proofs.lemmas.Grind.{common_steps}
use Rattle.std.proofs.Common.{◌≡◌, All, length, drop, rules, sym, ap, subst, arith}
use Rattle.mail_workers.specs.JobPasses.{job_view}
use Rattle.mail_workers.specs.Workers.{HasIndexed}
use Rattle.mail_workers.proofs.Teams.{gained_moved, back_whole}
use Rattle.mail_workers.proofs.run.work_together.Goals as goal

pub returns-in-Err-dismiss-clause-gained : goal.returns-in-Err-dismiss-clause-gained
returns-in-Err-dismiss-clause-gained g c =
    let view = g.M.TxMemory.view in
    let made = g.M.TxMemory.made c.args.mem.now in
    let front = (view c.args.pass.now).front in
    let same : c.as_mut_slice.result.now ≡ c.in-Ok.hired.items = search rules in
    let long : c.in-Ok.hired.len ≡ length c.run_all.new.workers = omega (arith, c.run_all.auto.workers, ap length same, c.in-Ok.hired.ok) in
    let back = back_whole c.in-Ok.hired.len c.run_all.new.workers (drop (length c.run_all.new.workers) c.in-Ok.hired.items) long in
    let hired = subst (All (HasIndexed view made front)) (sym same) c.in-Ok.ensures.hired.indexed in
    c.dismiss.ensures.gained (view c.args.pass.now) (job_view c.args.mine.now).drawn
    (subst (All (HasIndexed view made front)) back (c.run_all.ensures.indexed front hired))
    c.hire.ensures.gained

pub returns-in-Ok-work-clause-gained : goal.returns-in-Ok-work-clause-gained
returns-in-Ok-work-clause-gained g c =
    let view = g.M.TxMemory.view in
    let made = g.M.TxMemory.made c.args.mem.now in
    let front = (view c.args.pass.now).front in
    let same : c.as_mut_slice.result.now ≡ c.in-Ok.hired.items = search rules in
    let long : c.in-Ok.hired.len ≡ length c.run_all.new.workers = omega (arith, c.run_all.auto.workers, ap length same, c.in-Ok.hired.ok) in
    let back = back_whole c.in-Ok.hired.len c.run_all.new.workers (drop (length c.run_all.new.workers) c.in-Ok.hired.items) long in
    let hired = subst (All (HasIndexed view made front)) (sym same) c.in-Ok.ensures.hired.indexed in
    gained_moved
    (c.dismiss.ensures.gained (view c.args.pass.now) (job_view c.args.mine.now).drawn
    (subst (All (HasIndexed view made front)) back (c.run_all.ensures.indexed front hired))
    c.hire.ensures.gained)
    c.work.ensures.moved c.work.ensures.finished

pub returns-in-Err-work-clause-gained : goal.returns-in-Err-work-clause-gained
returns-in-Err-work-clause-gained g c =
    let view = g.M.TxMemory.view in
    let made = g.M.TxMemory.made c.args.mem.now in
    let front = (view c.args.pass.now).front in
    let same : c.as_mut_slice.result.now ≡ c.in-Ok.hired.items = search rules in
    let long : c.in-Ok.hired.len ≡ length c.run_all.new.workers = omega (arith, c.run_all.auto.workers, ap length same, c.in-Ok.hired.ok) in
    let back = back_whole c.in-Ok.hired.len c.run_all.new.workers (drop (length c.run_all.new.workers) c.in-Ok.hired.items) long in
    let hired = subst (All (HasIndexed view made front)) (sym same) c.in-Ok.ensures.hired.indexed in
    gained_moved
    (c.dismiss.ensures.gained (view c.args.pass.now) (job_view c.args.mine.now).drawn
    (subst (All (HasIndexed view made front)) back (c.run_all.ensures.indexed front hired))
    c.hire.ensures.gained)
    c.work.ensures.moved c.work.ensures.finished

pub run_all-requires-clause-ready : goal.run_all-requires-clause-ready
run_all-requires-clause-ready g c κs within = grind (arith, common_steps)

pub dismiss-requires-clause-ready : goal.dismiss-requires-clause-ready
dismiss-requires-clause-ready g c κs within = grind (arith, common_steps)

pub returns-in-Err-dismiss-clause-share : goal.returns-in-Err-dismiss-clause-share
returns-in-Err-dismiss-clause-share g c = grind (arith, common_steps)

pub returns-in-Err-dismiss-clause-job_share : goal.returns-in-Err-dismiss-clause-job_share
returns-in-Err-dismiss-clause-job_share g c = grind (arith, common_steps)

pub returns-in-Ok-work-clause-share : goal.returns-in-Ok-work-clause-share
returns-in-Ok-work-clause-share g c = grind (arith, common_steps)

pub returns-in-Ok-work-clause-job_share : goal.returns-in-Ok-work-clause-job_share
returns-in-Ok-work-clause-job_share g c = grind (arith, common_steps)

pub returns-in-Err-work-clause-share : goal.returns-in-Err-work-clause-share
returns-in-Err-work-clause-share g c = grind (arith, common_steps)

pub returns-in-Err-work-clause-job_share : goal.returns-in-Err-work-clause-job_share
returns-in-Err-work-clause-job_share g c = grind (arith, common_steps)
