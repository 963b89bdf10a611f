-- The passes so far were split off.
use Rattle.std.proofs.Common.{◌≡◌, ◌≤◌, length, vec_capacity}
use Rattle.tx_model.specs.declared.pass.PassState.TheVariants.{Idle}
use Rattle.bank.specs.Tellers.{AreHired}
use Rattle.bank.proofs.tellers.hire.Given as goal

abbrev pub invariant-loop-number : goal.invariant-loop-number
invariant-loop-number g l = record {
  of : g.M.TxMemory.of l.mem l.pass;
  idle : (g.M.TxMemory.view l.pass).state ≡ Idle;
  mine : length (g.M.TxMemory.view l.pass).mine ≡ length (g.M.TxMemory.view l.fn.pass).mine;
  hired : AreHired (g.M.TxMemory.of l.mem) g.M.TxMemory.view (g.M.TxMemory.made l.mem).sense.accounts (g.M.TxMemory.made l.mem).opening
      (g.M.TxMemory.view l.fn.pass).share (g.M.TxMemory.view l.pass).share l.number l.tellers.items;
  room : l.count ≤ vec_capacity l.tellers;
}
