-- From each worker to all of them.
use Rattle.std.proofs.Common.{arith, rules, subst}
use Rattle.std.proofs.lemmas.Grind.{elements}
use Rattle.mail_workers.specs.declared.run.Worker.{Worker}
use Rattle.mail_workers.specs.Workers.{HasWorked}
use Rattle.mail_workers.proofs.Teams.{have_worked}
use Rattle.mail_workers.proofs.run.run_all.Goals as goal

pub returns : goal.returns
returns g c =
    let Did = HasWorked (g.M.TxMemory.of c.args.mem.now) g.M.TxMemory.view (g.M.TxMemory.made c.args.mem.now) c.args.jobs.now in
    have_worked _ _ _ _ c.args.workers.now c.for_each_mut.new.s (search rules)
    (λ i d below. let change = (c.for_each_mut.ensures i d below).1 in
    subst (λ (pair : Worker g.row.M-Pass.Denot × Worker g.row.M-Pass.Denot). Did pair.0 pair.1) (λ k. (change.argument_is k, change.left k)) change.call)

pub for_each_mut-requires-clause-accepts : goal.for_each_mut-requires-clause-accepts
for_each_mut-requires-clause-accepts g c κs within = grind (arith, elements)
