-- The attempt has read, and did nothing else.
use Rattle.tx_model.specs.Calls.{OnlyReads}
use Rattle.bench_stm.proofs.work.read_accounts.Given as goal

abbrev pub invariant-loop-index : goal.invariant-loop-index
invariant-loop-index g l = record {
  of : g.M.TxMemory.of l.mem l.pass;
  reads : OnlyReads (g.M.TxMemory.view l.fn.pass) (g.M.TxMemory.view l.pass) (g.M.TxMemory.attempt l.fn.pass) (g.M.TxMemory.attempt l.pass);
}
