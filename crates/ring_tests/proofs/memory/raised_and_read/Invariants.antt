-- The pass is idle between raises, and has the share that it had.
use Rattle.std.proofs.Common.{◌≡◌}
use Rattle.tx_model.specs.declared.pass.PassState.TheVariants.{Idle}
use Rattle.ring_tests.proofs.memory.raised_and_read.Given as goal

abbrev pub invariant-loop : goal.invariant-loop
invariant-loop g l =
    g.M.TxMemory.of l.mem l.pass × ((g.M.TxMemory.view l.pass).state ≡ Idle) × ((g.M.TxMemory.view l.pass).share ≡ (g.M.TxMemory.view l.fn.pass).share)
