-- What a day at the bank leaves.
use Rattle.std.specs.Prelude.{◌≡◌, ℕ, List, length, All}
use Rattle.tx_model.specs.declared.view.PassView.{PassView}
use Rattle.tx_model.specs.History.{state_at}

-- the last state that the pass knows
abbrev pub last_state : List ℕ → PassView → List ℕ
last_state opening view = state_at opening view.history (length view.history)

-- so many audits, each of which found all the money
pub record AreSums (audits money : ℕ) (sums : List ℕ) : Type 0 where
  pub each : length sums ≡ audits
  pub exact : All (λ (total : ℕ). total ≡ money) sums
