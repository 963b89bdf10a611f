-- What a turn of a stamped pass leaves.
use Rattle.std.specs.Prelude.{◌≡◌, ◌≢◌, ℕ, ◌+◌, ◌-◌, ◌<◌, ◌≤◌, ◌==◌, ◌++◌, true, if◌then◌else◌, List, [], ◌∷◌, Some, slice_get}
use Rattle.atomic_table.specs.Seated.{TableId}
use Rattle.tx_model.specs.declared.pass.PassState.TheVariants.{Idle, Stamped}
use Rattle.tx_model.specs.declared.pass.Receipt.{Receipt}
use Rattle.tx_model.specs.declared.view.Attempt.{Attempt}
use Rattle.tx_model.specs.declared.view.PassView.{PassView}
use Rattle.tx_model.specs.History.{state_at, IsBeginning}
use Rattle.tx_model.specs.Attempt.{commit_of, owned_after}
use Rattle.tx_model.specs.Calls.{IsLater}
use Rattle.ring_core.specs.declared.action.Later.{Later}
use Rattle.ring_core.specs.declared.action.Later.TheVariants.{Order}
use Rattle.ring_core.specs.declared.action.Progress.{Progress}
use Rattle.ring_core.specs.declared.action.Progress.TheVariants.{Going}
use Rattle.ring_core.specs.declared.kind.Kind.TheVariants as kind
use Rattle.ring_core.specs.declared.stage.Stage.{Stage}
use Rattle.ring_core.specs.declared.stage.Stage.TheVariants as stage
use Rattle.ring_core.specs.declared.stage.TurnStage.{TurnStage}
use Rattle.ring_core.specs.declared.stage.TurnStage.TheVariants.{Complete, Before}
use Rattle.ring_core.specs.Machine.{steps_of}
use Rattle.ring_core.specs.Tags as tags
use Rattle.ring_words.specs.declared.table.About.{About}
use Rattle.ring_words.specs.declared.pass.RingPass.{RingPass}
use Rattle.ring_words.specs.declared.turns.Turn.{Turn}
use Rattle.ring_words.specs.declared.turns.Turn.TheVariants.{Completed, Later as Waiting}
use Rattle.ring_words.specs.Pass.{view_of, attempt_now, steps_made, last_found, last_kind, IsSeated, Stepped}

-- ---- what a turn answers
-- the commit of a stamped pass is the last of its own
pub record IsLastOwn (view : PassView) (stamp : ℕ) : Type 0 where
  pub before : List ℕ
  pub last : view.mine ≡ before ++ stamp ∷ []

-- the attempt is that commit, and it is complete by now
pub record Finished (opening : List ℕ) (old new : PassView) (attempt : Attempt) (receipt : Receipt) : Type 0 where
  pub idle : new.state ≡ Idle
  pub wrote : receipt.wrote ≡ true
  pub own : IsLastOwn old receipt.stamp
  pub history : IsBeginning old.history new.history
  pub there : slice_get new.history (receipt.stamp - 1) ≡ Some (commit_of attempt old.owned)
  pub complete : receipt.stamp ≤ new.front
  pub front : old.front ≤ new.front
  pub mine : new.mine ≡ old.mine
  pub owned : new.owned ≡ owned_after (state_at opening new.history receipt.stamp) attempt old.owned
  pub share : new.share ≡ old.share

-- the pass is stamped as before, with all that it knew
pub record StillStamped (old new : PassView) (before now : Attempt) : Type 0 where
  pub stamped : new.state ≡ Stamped
  pub later : IsLater old new
  pub same : now ≡ before

-- the tag of an earlier entry, which isn't complete
pub record IsEarlierTag (view : PassView) (entry tag : ℕ) : Type 0 where
  pub stamp : ℕ
  pub own : IsLastOwn view stamp
  pub earlier : entry < stamp
  pub some : 1 ≤ entry
  pub incomplete : tag < tags.complete entry

-- the last step loaded the tag that is waited for, and a turn waits for nothing else
abbrev pub IsOrder : {S : Type 0} → RingPass S → Later → Type 0
IsOrder pass (Order entry tag) = IsEarlierTag (view_of pass) entry tag × (last_found pass ≡ tag) × (last_kind pass ≡ Some kind.LoadTag)
IsOrder pass _ = ⊥

abbrev pub IfCompleted : Turn → (Receipt → Type 0) → Type 0
IfCompleted (Completed receipt) P = P receipt
IfCompleted (Waiting later) P = Unit {0}

abbrev pub IfWaiting : Turn → (Later → Type 0) → Type 0
IfWaiting (Completed receipt) P = Unit {0}
IfWaiting (Waiting later) P = P later

-- ---- a turn from its opening to its answer
abbrev pub IsTurn : Stage → Type 0
IsTurn (stage.Turn inner) = Unit {0}
IsTurn _ = ⊥

-- the turn goes on: the pass has what it had, and each step left it fewer
pub record IsTurning {S : Type 0} (old new : RingPass S) : Type 0 where
  pub still : StillStamped (view_of old) (view_of new) (attempt_now old) (attempt_now new)
  pub stamp : new.local.caller.stamp ≡ old.local.caller.stamp
  pub turn : IsTurn new.local.caller.stage
  pub seals : new.seals ≡ old.seals
  pub steps : steps_made new + steps_of new.local ≤ steps_made old + steps_of old.local
  pub more : steps_made old ≤ steps_made new

-- where it is when its words are stored: the entry before has to be complete, if there is one
abbrev pub after_words : ℕ → TurnStage
after_words stamp = if stamp == 1 then Complete else Before

-- it was answered by the last of its steps
pub record TurnAnswered {S : Type 0} (good : S → List ℕ → List ℕ → Type 0) (budget : S → List ℕ → ℕ) (about : About S) (table : TableId)
    (old new : RingPass S) (progress : Progress) : Type 0 where
  pub last : RingPass S
  pub seated : IsSeated good budget about table last
  pub turning : IsTurning old last
  pub step : Stepped good budget last new progress
  pub fewer : steps_of new.local < steps_of last.local
  pub over : progress ≢ Going
