-- The attempt has counted its commit.
use Rattle.std.proofs.Common.{◌≡◌, length}
use Rattle.ring_stress.specs.Ready.{HasCounted}
use Rattle.ring_stress.proofs.attempt.change_words.Given as goal

abbrev pub invariant-loop-step : goal.invariant-loop-step
invariant-loop-step g l = record {
  of : g.M.TxMemory.of l.mem l.pass;
  share : (g.M.TxMemory.view l.pass).share ≡ (g.M.TxMemory.view l.fn.pass).share;
  counted : HasCounted (length (g.M.TxMemory.made l.mem).opening) (g.M.TxMemory.view l.pass) (g.M.TxMemory.attempt l.pass);
}
