-- The segments so far were listed, and the way goes on at the next one.
use Rattle.tx_postings.proofs.ListSteps.{IsGoing}
use Rattle.tx_postings.proofs.listing.list.Given as goal

abbrev pub invariant-loop-number : goal.invariant-loop-number
invariant-loop-number g l =
    g.M.TxMemory.of l.mem l.pass
    × IsGoing (g.M.TxMemory.made l.mem) (g.M.TxMemory.view l.fn.pass) (g.M.TxMemory.view l.pass) (g.M.TxMemory.attempt l.fn.pass)
    (g.M.TxMemory.attempt l.pass) l.key l.number l.fn.into.items l.into.items

abbrev pub decreases-loop-number : goal.decreases-loop-number
decreases-loop-number g l = l.number
