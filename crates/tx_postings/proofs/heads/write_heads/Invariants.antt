-- The first words of the segments of the first lanes are written.
use Rattle.std.proofs.Common.{◌≡◌, take}
use Rattle.tx_heap.specs.Calls.{made_sizes}
use Rattle.tx_postings.specs.Heads.{with_heads}
use Rattle.tx_postings.proofs.heads.write_heads.Given as goal

abbrev pub invariant-loop-lane : goal.invariant-loop-lane
invariant-loop-lane g l =
    g.M.TxMemory.of l.mem l.pass
    × (g.M.TxMemory.view l.pass ≡ g.M.TxMemory.view l.fn.pass)
    × (g.M.TxMemory.attempt l.pass ≡ with_heads (made_sizes (g.M.TxMemory.made l.mem)) (g.M.TxMemory.attempt l.fn.pass) (take l.lane l.heads))
