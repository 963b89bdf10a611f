-- The one attempt that counts is the last one.
use Rattle.bank.proofs.Outcomes.{never_worn, not_transferred, transferred, done_as_asked, refused_as_asked, worn_as_asked}
use Rattle.bank.proofs.transfer.carry_out.Goals as goal

pub unreachable-requires : goal.unreachable-requires
unreachable-requires g c =
    let good = (g.met.M.TxMemory.knows c.args.mem.now c.atomically.new.pass c.atomically.ensures.of).good_states in
    never_worn (g.M.TxMemory.made c.args.mem.now).sense.accounts c.args.teller c.args.order _ _ _ good c.requires.life
    (worn_as_asked c.atomically.ensures.task c.in-Err-Worn.field-0-is c.in-Err-Worn.ensures.not_done)

pub returns-in-Ok-clause-transferred : goal.returns-in-Ok-clause-transferred
returns-in-Ok-clause-transferred g c =
    let good = (g.met.M.TxMemory.knows c.args.mem.now c.atomically.new.pass c.atomically.ensures.of).good_states in
    transferred (g.M.TxMemory.made c.args.mem.now).sense.accounts c.args.teller c.args.order _ _ _ good
    (done_as_asked c.atomically.ensures.task c.in-Ok.ensures.done)

pub returns-in-Err-Refused-clause-refused : goal.returns-in-Err-Refused-clause-refused
returns-in-Err-Refused-clause-refused g c =
    not_transferred (g.M.TxMemory.made c.args.mem.now).sense.accounts c.args.teller c.args.order _ _ _
    (refused_as_asked c.atomically.ensures.task _ c.in-Err-Refused.field-0-is c.in-Err-Refused.ensures.not_done)
