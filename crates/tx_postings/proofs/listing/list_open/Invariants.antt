-- The cells so far were listed, and the walk is at the next one.
use Rattle.tx_postings.proofs.CellSteps.{IsListing}
use Rattle.tx_postings.proofs.listing.list_open.Given as goal

abbrev pub invariant-loop-cell : goal.invariant-loop-cell
invariant-loop-cell g l =
    g.M.TxMemory.of l.mem l.pass
    × IsListing (g.M.TxMemory.made l.mem) (g.M.TxMemory.view l.fn.pass) (g.M.TxMemory.view l.pass) (g.M.TxMemory.attempt l.fn.pass)
    (g.M.TxMemory.attempt l.pass) l.segment l.key l.offset l.cell l.fn.into.items l.into.items

abbrev pub decreases-loop-cell : goal.decreases-loop-cell
decreases-loop-cell g l = l.cell
