-- What holds of a region that a caller owns, from the completion of the commit that sealed it to that of the commit that publishes it.
use Rattle.std.specs.Prelude.{◌≡◌, ℕ, ◌-◌, ◌≤◌, List, Some, slice_get, Contains}
use Rattle.tx_model.specs.declared.gate.Region.{Region}
use Rattle.tx_model.specs.declared.gate.TheConstants.{GATE_SEALED}
use Rattle.tx_model.specs.declared.history.Commit.{Commit}
use Rattle.tx_model.specs.declared.view.Owned.{Owned}
use Rattle.tx_model.specs.Memory.{words_in}
use Rattle.tx_model.specs.History.{state_at}
use Rattle.tx_model.specs.Pass.{IsOwnable}
use Rattle.ring_worlds.specs.declared.process.Process.{Process}
use Rattle.ring_worlds.specs.World.{Board}

module _ (opening : List ℕ) (regions : List Region) where
  pub record IsOwner (b : Board) (p : Process) (o : Owned) : Type 0 where
    pub ownable : IsOwnable regions o
    -- the complete commit that sealed it, which its caller knows
    pub entry : ℕ
    pub some : 1 ≤ entry
    pub noted : entry ≤ p.front
    pub commit : Commit
    pub there : slice_get b.history (entry - 1) ≡ Some commit
    pub seals : Contains commit.sealed o.region
    -- in the state after the complete commits the gate is still sealed, and the words are as they were at sealing
    pub still : slice_get (state_at opening b.history b.complete) o.region.gate ≡ Some GATE_SEALED
    pub kept : words_in (state_at opening b.history b.complete) o.region ≡ o.at_sealing
