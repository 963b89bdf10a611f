-- The pass is idle between calls, and has the names that it had.
use Rattle.std.proofs.Common.{◌≡◌}
use Rattle.tx_model.specs.declared.pass.PassState.TheVariants.{Idle}
use Rattle.memory_tests.proofs.asked.first_other.Given as goal

abbrev pub invariant-loop-at : goal.invariant-loop-at
invariant-loop-at g l =
    g.M.TxMemory.of l.mem l.pass × ((g.M.TxMemory.view l.pass).state ≡ Idle) × ((g.M.TxMemory.view l.pass).share ≡ (g.M.TxMemory.view l.fn.pass).share)
