-- From each teller to all of them.
use Rattle.std.proofs.Common.{rules, subst, length}
use Rattle.bank.specs.declared.tellers.Teller.{Teller}
use Rattle.bank.specs.Tellers.{HasServed}
use Rattle.bank.proofs.TellerLists.{have_served}
use Rattle.bank.proofs.tellers.serve_all.Goals as goal

pub returns : goal.returns
returns g c =
    let made = g.M.TxMemory.made c.args.mem.now in
    let Did = HasServed (g.M.TxMemory.of c.args.mem.now) g.M.TxMemory.view made.sense.accounts made.opening (length c.args.orders.now) in
    have_served _ _ _ _ _ c.args.tellers.now c.for_each_mut.new.s (search rules)
    (λ i d below. let change = (c.for_each_mut.ensures i d below).1 in
    subst (λ (pair : Teller g.row.P.Denot × Teller g.row.P.Denot). Did pair.0 pair.1) (λ k. (change.argument_is k, change.left k)) change.call)
