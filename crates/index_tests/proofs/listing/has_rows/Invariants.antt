-- The pass is idle between words, and has the names that it had.
use Rattle.std.proofs.Common.{◌≡◌}
use Rattle.tx_model.specs.declared.pass.PassState.TheVariants.{Idle}
use Rattle.index_tests.proofs.listing.has_rows.Given as goal

abbrev pub invariant-loop-index : goal.invariant-loop-index
invariant-loop-index g l =
    g.M.TxMemory.of l.mem l.pass × ((g.M.TxMemory.view l.pass).state ≡ Idle) × ((g.M.TxMemory.view l.pass).share ≡ (g.M.TxMemory.view l.fn.pass).share)

abbrev pub invariant-loop-key : goal.invariant-loop-key
invariant-loop-key g l =
    g.M.TxMemory.of l.mem l.pass × ((g.M.TxMemory.view l.pass).state ≡ Idle) × ((g.M.TxMemory.view l.pass).share ≡ (g.M.TxMemory.view l.fn.pass).share)
