-- The orders so far are between two accounts.
use Rattle.std.proofs.Common.{◌≡◌, ◌≤◌, All, vec_len, vec_capacity}
use Rattle.bank.specs.Transfer.{IsOrder}
use Rattle.bank.proofs.orders_for.Given as goal

abbrev pub invariant-loop-number : goal.invariant-loop-number
invariant-loop-number l = record {
  orders : All (IsOrder l.plan.accounts) l.orders.items;
  each : vec_len l.orders ≡ l.number;
  room : l.count ≤ vec_capacity l.orders;
}
