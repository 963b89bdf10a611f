-- What an audit finds.
use Rattle.std.specs.Prelude.{◌≡◌, ℕ, ◌≤◌, ◌++◌, List, length, sum, Option, Some, None}
use Rattle.std.specs.declared.convert.Infallible.{Infallible}
use Rattle.tx_model.specs.declared.view.Attempt.{Attempt}
use Rattle.tx_model.specs.declared.view.PassView.{PassView}
use Rattle.tx_model.specs.Memory.{words_from}
use Rattle.tx_model.specs.Attempt.{starting_at}
use Rattle.bank.specs.Bank.{money_in}

-- the attempt read each account once, from the first one on, and the total is the sum of what it read, and the money of the opening
pub record Audits (accounts : ℕ) (opening : List ℕ) (before now : Attempt) (total : ℕ) : Type 0 where
  pub balances : List ℕ
  pub each : length balances ≡ accounts
  pub reads : now.reads ≡ before.reads ++ words_from 0 balances
  pub writes : now.writes ≡ before.writes
  pub added : total ≡ sum balances
  pub exact : total ≡ money_in accounts opening

-- an attempt that did nothing else
abbrev pub DidAudit : ℕ → ℕ → List ℕ → Option Infallible → Attempt → Type 0
DidAudit accounts total opening None attempt = Audits accounts opening (starting_at attempt.start) attempt total
DidAudit accounts total opening (Some never) attempt = ⊥

-- an attempt that began with all that the pass knew found this total
pub record Audited (accounts : ℕ) (opening : List ℕ) (old : PassView) (total : ℕ) : Type 0 where
  pub attempt : Attempt
  pub no_older : old.front ≤ attempt.start
  pub audits : Audits accounts opening (starting_at attempt.start) attempt total
