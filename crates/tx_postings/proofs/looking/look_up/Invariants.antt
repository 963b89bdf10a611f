-- The first keys are looked for.
use Rattle.std.proofs.Common.{◌≡◌, length}
use Rattle.tx_model.specs.Pass.{IsPass}
use Rattle.tx_heap.specs.Mail.{IsGoodMail, mail_budget}
use Rattle.tx_postings.specs.Looking.{LookedFor}
use Rattle.tx_postings.proofs.looking.look_up.Given as goal

abbrev pub invariant-loop-k : goal.invariant-loop-k
invariant-loop-k g l =
    g.M.TxMemory.of l.mem l.pass
    × IsPass IsGoodMail mail_budget (g.M.TxMemory.made l.mem) (g.M.TxMemory.view l.pass) (g.M.TxMemory.attempt l.pass)
    × LookedFor (g.M.TxMemory.made l.mem) (g.M.TxMemory.view l.fn.pass) (g.M.TxMemory.view l.pass) (g.M.TxMemory.attempt l.fn.pass)
    (g.M.TxMemory.attempt l.pass) l.keys l.k l.offsets l.heads
    × (length l.offsets ≡ length l.fn.offsets)
