-- The first keys are put.
use Rattle.tx_postings.proofs.AllSteps.{IsPutting}
use Rattle.tx_postings.proofs.posting.put_all.Given as goal

abbrev pub invariant-loop-k : goal.invariant-loop-k
invariant-loop-k g l =
    g.M.TxMemory.of l.mem l.pass
    × IsPutting (g.M.TxMemory.made l.mem) (g.M.TxMemory.view l.fn.pass) (g.M.TxMemory.view l.pass) (g.M.TxMemory.attempt l.fn.pass)
    (g.M.TxMemory.attempt l.pass) l.message l.keys l.offsets l.k l.heads
