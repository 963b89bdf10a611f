-- The audits so far found all the money.
use Rattle.std.proofs.Common.{◌≡◌, ◌≤◌, vec_capacity}
use Rattle.tx_model.specs.declared.pass.PassState.TheVariants.{Idle}
use Rattle.tx_model.specs.Calls.{IsLater}
use Rattle.bank.specs.Bank.{money_in}
use Rattle.bank.specs.Day.{AreSums}
use Rattle.bank.proofs.day.audit_often.Given as goal

abbrev pub invariant-loop-audit : goal.invariant-loop-audit
invariant-loop-audit g l = record {
  of : g.M.TxMemory.of l.mem l.pass;
  idle : (g.M.TxMemory.view l.pass).state ≡ Idle;
  later : IsLater (g.M.TxMemory.view l.fn.pass) (g.M.TxMemory.view l.pass);
  sums : AreSums l._audit (money_in (g.M.TxMemory.made l.mem).sense.accounts (g.M.TxMemory.made l.mem).opening) l.sums.items;
  room : l.audits ≤ vec_capacity l.sums;
}
