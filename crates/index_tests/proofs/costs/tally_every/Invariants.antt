-- The pass is idle between messages, and has the names that it had.
use Rattle.std.proofs.Common.{◌≡◌}
use Rattle.tx_model.specs.declared.pass.PassState.TheVariants.{Idle}
use Rattle.index_tests.proofs.costs.tally_every.Given as goal

abbrev pub invariant-loop-index : goal.invariant-loop-index
invariant-loop-index g l =
    g.M.TxMemory.of l.mem.mem l.pass × ((g.M.TxMemory.view l.pass).state ≡ Idle) × ((g.M.TxMemory.view l.pass).share ≡ (g.M.TxMemory.view l.fn.pass).share)
