-- So many accounts were written.
use Rattle.std.proofs.Common.{◌+◌, length}
use Rattle.bench_stm.specs.Work.{HasCounted}
use Rattle.bench_stm.proofs.work.write_accounts.Given as goal

abbrev pub invariant-loop-index : goal.invariant-loop-index
invariant-loop-index g l = record {
  of : g.M.TxMemory.of l.mem l.pass;
  counted : HasCounted (length (g.M.TxMemory.attempt l.fn.pass).writes + l.index) (g.M.TxMemory.view l.fn.pass) (g.M.TxMemory.view l.pass)
      (g.M.TxMemory.attempt l.fn.pass) (g.M.TxMemory.attempt l.pass);
}
