-- The orders so far were counted, and a commit was made for each transfer.
use Rattle.std.proofs.Common.{◌≡◌, ◌+◌, length}
use Rattle.tx_model.specs.declared.pass.PassState.TheVariants.{Idle}
use Rattle.bank.specs.Tellers.{orders_in}
use Rattle.bank.proofs.tellers.serve.Given as goal

abbrev pub invariant-loop-order : goal.invariant-loop-order
invariant-loop-order g l = record {
  of : g.M.TxMemory.of l.mem l.pass;
  idle : (g.M.TxMemory.view l.pass).state ≡ Idle;
  share : (g.M.TxMemory.view l.pass).share ≡ (g.M.TxMemory.view l.fn.pass).share;
  counted : orders_in l.tally ≡ l.order-index;
  made : length (g.M.TxMemory.view l.pass).mine ≡ length (g.M.TxMemory.view l.fn.pass).mine + l.tally.made;
}
