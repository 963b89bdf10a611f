-- The pass is between two attempts, and no more attempts were committed than made rounds.
use Rattle.std.proofs.Common.{◌≡◌, ◌<◌, ◌≤◌}
use Rattle.tx_model.specs.declared.pass.PassState.TheVariants.{Idle}
use Rattle.bench_stm.specs.declared.addresses.TheConstants.{COUNTS}
use Rattle.bench_stm.proofs.threads.repeat.Given as goal

abbrev pub invariant-loop-round : goal.invariant-loop-round
invariant-loop-round g l = record {
  of : g.M.TxMemory.of l.mem l.pass;
  idle : (g.M.TxMemory.view l.pass).state ≡ Idle;
  share : (g.M.TxMemory.view l.pass).share ≡ (g.M.TxMemory.view l.fn.pass).share;
  counts : l.body.count_at < COUNTS;
  few : l.commits ≤ l.round;
}
