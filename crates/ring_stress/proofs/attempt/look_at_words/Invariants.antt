-- The attempt has written nothing.
use Rattle.std.proofs.Common.{◌≡◌, []}
use Rattle.tx_model.specs.declared.pass.PassState.TheVariants.{Active}
use Rattle.ring_stress.proofs.attempt.look_at_words.Given as goal

abbrev pub invariant-loop-step : goal.invariant-loop-step
invariant-loop-step g l = record {
  of : g.M.TxMemory.of l.mem l.pass;
  share : (g.M.TxMemory.view l.pass).share ≡ (g.M.TxMemory.view l.fn.pass).share;
  active : (g.M.TxMemory.view l.pass).state ≡ Active;
  unwritten : (g.M.TxMemory.attempt l.pass).writes ≡ [];
}
