-- The accounts so far were read, and are in the total.
use Rattle.std.proofs.Common.{◌≡◌, ℕ, List, length, sum}
use Rattle.tx_model.specs.Memory.{words_from}
use Rattle.bank.proofs.Attempts.{HasRead}
use Rattle.bank.proofs.audit.add_accounts.Given as goal

abbrev pub invariant-loop-account : goal.invariant-loop-account
invariant-loop-account g l = record {
  of : g.M.TxMemory.of l.mem l.pass;
  balances : List ℕ;
  each : length balances ≡ l.account;
  read : HasRead (g.M.TxMemory.view l.fn.pass) (g.M.TxMemory.view l.pass) (g.M.TxMemory.attempt l.fn.pass) (g.M.TxMemory.attempt l.pass)
      (words_from 0 balances);
  added : l.total ≡ sum balances;
}
