-- The writes so far left what the pass stands for as it was.
use Rattle.std.proofs.Common.{◌≡◌, ◌≤◌}
use Rattle.memory_tests.proofs.attempts.write_first.Given as goal

abbrev pub invariant-loop-addr : goal.invariant-loop-addr
invariant-loop-addr g l =
    g.M.TxMemory.of l.mem l.pass × (g.M.TxMemory.view l.pass ≡ g.M.TxMemory.view l.fn.pass) × (l.written ≤ l.addr)
