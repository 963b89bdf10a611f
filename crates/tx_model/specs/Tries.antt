-- What a body did in an attempt, and what trying again leaves.
use Rattle.std.specs.Prelude.{◌≡◌, ◌≢◌, ℕ, ◌≤◌, List, [], Option, Some, None}
use Rattle.tx_model.specs.declared.pass.PassState.TheVariants.{Idle}
use Rattle.tx_model.specs.declared.pass.Stop.{Stop}
use Rattle.tx_model.specs.declared.pass.Receipt.{Receipt}
use Rattle.tx_model.specs.declared.body.BodyStep.{BodyStep}
use Rattle.tx_model.specs.declared.body.BodyStep.TheVariants.{Stopped, Refused}
use Rattle.tx_model.specs.declared.trying.BodyStop.{BodyStop}
use Rattle.tx_model.specs.declared.trying.BodyStop.TheVariants as body_stop
use Rattle.tx_model.specs.declared.trying.OnceStop.{OnceStop}
use Rattle.tx_model.specs.declared.trying.OnceStop.TheVariants.{Again, Over}
use Rattle.tx_model.specs.declared.history.Commit.{Commit}
use Rattle.tx_model.specs.declared.view.Attempt.{Attempt}
use Rattle.tx_model.specs.declared.view.PassView.{PassView}
use Rattle.tx_model.specs.Made.{Made}
use Rattle.tx_model.specs.Attempt.{MayCommit}
use Rattle.tx_model.specs.Calls.{IsLater, GoesOn, Ended, IsStopped, Committed, WornOut}
use Rattle.tx_model.specs.Opacity.{ReadFromState}

-- the attempt is open, no older than it was, and may be committed
pub record ReadyToCommit {S : Type 0} (good : S → List ℕ → List ℕ → Type 0) (budget : S → List ℕ
    → ℕ) (made : Made S) (old new : PassView) (before now : Attempt) : Type 0 where
  pub goes_on : GoesOn old new before now
  pub may : now.writes ≢ [] → MayCommit (good made.sense made.opening) (budget made.sense) now new.owned

-- a stop ended the attempt, and is shown; a refusal leaves it open
abbrev pub StepStopped : {T : Type 0} → (List Commit → ℕ → List ℕ → Stop → Type 0) → (Option T → Attempt → Type 0) → List ℕ → PassView → PassView → Attempt
    → Attempt → BodyStep T → Type 0
StepStopped shows did opening old new before now (Stopped stop) = IsStopped shows opening old new before stop
StepStopped shows did opening old new before now (Refused refusal) = GoesOn old new before now × did (Some refusal) now

module _ {T : Type 0} (did : Option T → Attempt → Type 0) (opening : List ℕ) where
  -- an attempt was committed that began with all that the pass knew
  pub record Done (old new : PassView) (receipt : Receipt) : Type 0 where
    pub attempt : Attempt
    pub fresh : old.front ≤ attempt.start
    pub meaning : did None attempt
    pub committed : Committed opening old new attempt receipt

  -- the last attempt was refused by the body, and given up
  pub record GaveUp (old new : PassView) (refusal : T) : Type 0 where
    pub attempt : Attempt
    pub fresh : old.front ≤ attempt.start
    pub meaning : did (Some refusal) attempt
    pub ended : Ended old new attempt
    pub one_state : ReadFromState opening new.history attempt.reads attempt.start

  -- the memory had no more commit for the last attempt
  pub record HadNoMore (life : ℕ) (old new : PassView) (index : ℕ) : Type 0 where
    pub attempt : Attempt
    pub fresh : old.front ≤ attempt.start
    pub meaning : did None attempt
    pub worn : WornOut life old new attempt index

  abbrev pub NotDone : ℕ → PassView → PassView → BodyStop T → Type 0
  NotDone life old new (body_stop.Worn index) = HadNoMore life old new index
  NotDone life old new (body_stop.Refused refusal) = GaveUp old new refusal

  -- the same for one try, after which there may be another
  abbrev pub OnceNotDone : ℕ → PassView → PassView → OnceStop T → Type 0
  OnceNotDone life old new Again = (new.state ≡ Idle) × IsLater old new
  OnceNotDone life old new (Over stop) = NotDone life old new stop
