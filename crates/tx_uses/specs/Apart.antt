-- What is left where a further pass raises a word, and is joined again.
use Rattle.std.specs.Prelude.{◌≡◌, ℕ, ◌≤◌, List, Some, length, slice_get}
use Rattle.tx_model.specs.declared.pass.Stop.{Stop}
use Rattle.tx_model.specs.declared.history.Commit.{Commit}
use Rattle.tx_model.specs.declared.view.PassView.{PassView}
use Rattle.tx_model.specs.History.{state_at}
use Rattle.tx_model.specs.Opacity.{IsShown}
use Rattle.tx_uses.specs.declared.apart.ApartStop.{ApartStop}
use Rattle.tx_uses.specs.declared.apart.ApartStop.TheVariants as apart
use Rattle.tx_uses.specs.declared.apart.Seen.{Seen}
use Rattle.tx_uses.specs.declared.apart.SeenStop.{SeenStop}
use Rattle.tx_uses.specs.declared.apart.SeenStop.TheVariants as seen
use Rattle.tx_uses.specs.Raised as raised
use Rattle.tx_uses.specs.Raised.{Raised}

-- why the further pass raised nothing
abbrev pub NotRaisedApart : List ℕ → ℕ → ℕ → PassView → PassView → ApartStop → Type 0
NotRaisedApart opening life word old new apart.Memory = new ≡ old
NotRaisedApart opening life word old new (apart.NotRaised stop) = raised.NotRaised opening life word old new stop

-- the word was raised, and then had this value in a state that is no older than the raise
pub record SeenAfter (opening : List ℕ) (word : ℕ) (old new : PassView) (seen : Seen) : Type 0 where
  pub raised : Raised opening word old new seen.receipt
  pub state : ℕ
  pub no_older : seen.receipt.stamp ≤ state
  pub happened : state ≤ length new.history
  pub there : slice_get (state_at opening new.history state) word ≡ Some seen.value

-- the word wasn't raised, or it was, and then a stop came, which is shown by what was read since
abbrev pub NotSeen : (List Commit → ℕ → List ℕ → Stop → Type 0) → List ℕ → ℕ → ℕ → PassView → PassView → SeenStop → Type 0
NotSeen shows opening life word old new (seen.NotRaised stop) = NotRaisedApart opening life word old new stop
NotSeen shows opening life word old new (seen.Stopped receipt stop) = Raised opening word old new receipt × IsShown shows opening new.history receipt.stamp stop
