-- What the further pass did is what the joined pass has done.
use Rattle.tx_uses.proofs.ApartSteps.{raised_apart, not_raised_apart}
use Rattle.tx_uses.proofs.apart.raise_apart.Goals as goal

pub returns-in-Ok-raised-clause-raised : goal.returns-in-Ok-raised-clause-raised
returns-in-Ok-raised-clause-raised g c =
    raised_apart c.state_laws.ensures.stays (g.M.TxMemory.made c.args.mem.now).opening
    (g.M.TxMemory.view c.args.pass.now) c.in-Ok.ensures.kept c.in-Ok.ensures.given.1 c.join.ensures.joined c.pass_knows.ensures.mine
    c.pass_knows-2.ensures.front c.in-Ok-raised.ensures.raised

pub returns-in-Err-raised-clause-not_raised : goal.returns-in-Err-raised-clause-not_raised
returns-in-Err-raised-clause-not_raised g c =
    not_raised_apart c.state_laws.ensures.stays (g.M.TxMemory.made c.args.mem.now).opening
    (g.M.TxMemory.view c.args.pass.now) c.in-Ok.ensures.kept c.in-Ok.ensures.given.1 c.join.ensures.joined
    (g.M.TxMemory.made c.args.mem.now).life c.args.word c.in-Err-raised.stop c.pass_knows-3.ensures.lasts c.in-Err-raised.ensures.not_raised
