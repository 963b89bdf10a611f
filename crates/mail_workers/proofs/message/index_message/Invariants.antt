-- The batches so far left the pass idle, and only moved the index.
use Rattle.std.proofs.Common.{◌≡◌}
use Rattle.tx_model.specs.declared.pass.PassState.TheVariants.{Idle}
use Rattle.mail_workers.specs.Indexing.{HasMoved}
use Rattle.mail_workers.proofs.message.index_message.Given as goal

abbrev pub invariant-loop : goal.invariant-loop
invariant-loop g l = record {
  of : g.M.TxMemory.of l.mem l.pass;
  idle : (g.M.TxMemory.view l.pass).state ≡ Idle;
  moved : HasMoved (g.M.TxMemory.made l.mem) (g.M.TxMemory.view l.fn.pass) (g.M.TxMemory.view l.pass);
}
