-- What a raise leaves of the memory.
use Rattle.std.specs.Prelude.{◌≡◌, ◌≢◌, ℕ, ◌+◌, ◌-◌, ◌^◌, ◌<◌, ◌≤◌, ◌++◌, true, List, [], ◌∷◌, Some, length, slice_get, slice_index}
use Rattle.tx_model.specs.declared.pass.Receipt.{Receipt}
use Rattle.tx_model.specs.declared.trying.BodyStop.{BodyStop}
use Rattle.tx_model.specs.declared.trying.BodyStop.TheVariants.{Worn, Refused}
use Rattle.tx_model.specs.declared.view.PassView.{PassView}
use Rattle.tx_model.specs.History.{IsBeginning, state_at}
use Rattle.tx_uses.specs.declared.raise.RaiseRefusal.{RaiseRefusal}
use Rattle.tx_uses.specs.declared.raise.RaiseRefusal.TheVariants.{Spent, Full}
use Rattle.tx_uses.specs.Countdown.{count_of}

-- the word is greater by one, the count is lower by one, and nothing else changed
pub record IsRaised (word : ℕ) (before after : List ℕ) : Type 0 where
  pub size : length after ≡ length before
  pub greater : slice_index after word ≡ slice_index before word + 1
  pub lower : count_of before ≡ count_of after + 1
  pub others : (other : ℕ) → other ≢ 0 → other ≢ word → slice_index after other ≡ slice_index before other

-- the raise is a commit of the history, after all that the pass knew, and the pass knows that it is complete
pub record Raised (opening : List ℕ) (word : ℕ) (old new : PassView) (receipt : Receipt) : Type 0 where
  pub wrote : receipt.wrote ≡ true
  pub history : IsBeginning old.history new.history
  pub later : length old.history < receipt.stamp
  pub complete : receipt.stamp ≤ new.front
  pub raised : IsRaised word (state_at opening new.history (receipt.stamp - 1)) (state_at opening new.history receipt.stamp)
  pub mine : new.mine ≡ old.mine ++ receipt.stamp ∷ []

-- the address had this value in a state that is no older than all that the pass knew to be complete
pub record HadValue (opening : List ℕ) (old new : PassView) (addr value : ℕ) : Type 0 where
  pub state : ℕ
  pub no_older : old.front ≤ state
  pub happened : state ≤ length new.history
  pub there : slice_get (state_at opening new.history state) addr ≡ Some value

-- why nothing was raised: the memory has had its last commit, or one of the two words had the end of its range
abbrev pub NotRaised : List ℕ → ℕ → ℕ → PassView → PassView → BodyStop RaiseRefusal → Type 0
NotRaised opening life word old new (Worn index) = (index ≡ life) × (length new.history ≡ life)
NotRaised opening life word old new (Refused Spent) = HadValue opening old new 0 0
NotRaised opening life word old new (Refused Full) = HadValue opening old new word (2 ^ 64 - 1)
