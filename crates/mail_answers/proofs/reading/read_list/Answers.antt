-- The messages that are listed, in order.
use Rattle.std.proofs.Common.{List, ℕ, subst}
use Rattle.tx_postings.specs.Listing.{Listed}
use Rattle.mail_answers.proofs.ReadSteps.{list_gained}
use Rattle.mail_answers.proofs.reading.read_list.Goals as goal

pub returns-in-Ok-clause-gains : goal.returns-in-Ok-clause-gains
returns-in-Ok-clause-gains g c =
    let memory = g.M.TxMemory in
    let law = c.keys_are_totally_ordered.ensures in
    let listed = subst (λ (items : List ℕ). Listed (memory.made c.args.mem.now) (memory.view c.args.pass.now) (memory.view c.list.new.pass)
    (memory.attempt c.args.pass.now) (memory.attempt c.list.new.pass) c.args.key.now items c.list.new.into.items) c.new-messages.ensures.items
    c.in_ok-list.ensures.listed in
    list_gained (record { total = law.total; ties = law.ties; same = law.same }) listed c.put_in_order.ensures.rises c.put_in_order.ensures.same
    c.in-Ok.ensures.right c.in-Ok.ensures.more
