-- The records so far have other keys, and the search is at the next one.
use Rattle.tx_buckets.proofs.FindSteps.{IsSearching}
use Rattle.tx_buckets.proofs.finding.find.Given as goal

abbrev pub invariant-loop-at : goal.invariant-loop-at
invariant-loop-at g l =
    g.M.TxMemory.of l.mem l.pass
    × IsSearching (g.M.TxMemory.made l.mem) (g.M.TxMemory.view l.fn.pass) (g.M.TxMemory.view l.pass) (g.M.TxMemory.attempt l.fn.pass)
    (g.M.TxMemory.attempt l.pass) l.segment l.key l.at

abbrev pub decreases-loop-at : goal.decreases-loop-at
decreases-loop-at g l = l.at
