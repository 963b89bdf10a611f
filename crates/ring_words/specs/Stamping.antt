-- A request to stamp, from its opening to its answer, and what the call says.
use Rattle.std.specs.Prelude.{◌≡◌, ◌≢◌, ℕ, ◌+◌, ◌-◌, ◌<◌, ◌≤◌, ◌++◌, List, [], ◌∷◌, length, Some, slice_get}
use Rattle.atomic_table.specs.Seated.{TableId}
use Rattle.tx_model.specs.declared.pass.PassState.TheVariants.{Active, Stamped}
use Rattle.tx_model.specs.declared.view.Attempt.{Attempt}
use Rattle.tx_model.specs.declared.view.PassView.{PassView}
use Rattle.tx_model.specs.Words.{addresses}
use Rattle.tx_model.specs.History.{state_at, IsBeginning}
use Rattle.tx_model.specs.Attempt.{Fits, commit_of}
use Rattle.tx_model.specs.Calls.{IsLater, GoesOnWith, Ended, WornOut}
use Rattle.ring_core.specs.declared.action.Later.{Later}
use Rattle.ring_core.specs.declared.action.Later.TheVariants as later
use Rattle.ring_core.specs.declared.action.Progress.{Progress}
use Rattle.ring_core.specs.declared.action.Progress.TheVariants as answer
use Rattle.ring_core.specs.declared.kind.Kind.{Kind}
use Rattle.ring_core.specs.declared.kind.Kind.TheVariants as kind
use Rattle.ring_core.specs.declared.stage.Stage.{Stage}
use Rattle.ring_core.specs.declared.stage.Stage.TheVariants.{Check, StampSlot, StampSwap}
use Rattle.ring_core.specs.declared.stage.Purpose.TheVariants.{Stamp}
use Rattle.ring_core.specs.declared.stage.CheckStage.TheVariants.{First, Words, Second}
use Rattle.ring_core.specs.Machine.{steps_of}
use Rattle.ring_core.specs.Request.{next_action}
use Rattle.ring_core.specs.Tags.{writing, complete}
use Rattle.ring_worlds.specs.declared.process.Process.{Process}
use Rattle.ring_words.specs.declared.stamp.Stamp.{Stamp as Answer}
use Rattle.ring_words.specs.declared.stamp.Stamp.TheVariants as stamp
use Rattle.ring_words.specs.declared.table.About.{About}
use Rattle.ring_words.specs.declared.pass.RingPass.{RingPass}
use Rattle.ring_words.specs.declared.ring.Ring.{Ring}
use Rattle.ring_words.specs.Layout.{IsLoad}
use Rattle.ring_words.specs.Ring.{made_of}
use Rattle.ring_words.specs.Pass.{process_now, view_of, attempt_now, steps_made, last_found, last_kind, shows_in, IsSeated, Stepped, Exchanged}

-- ---- the request
-- a stage of a request to stamp
abbrev pub IsStamp : Stage → Type 0
IsStamp (Check Stamp inner) = Unit {0}
IsStamp (StampSlot top) = Unit {0}
IsStamp (StampSwap top) = Unit {0}
IsStamp _ = ⊥

-- the index that it has loaded
abbrev pub HasTop : Stage → ℕ → Type 0
HasTop (Check Stamp (First walk)) top = walk.top ≡ top
HasTop (Check Stamp (Words walk word)) top = walk.top ≡ top
HasTop (Check Stamp (Second walk)) top = walk.top ≡ top
HasTop (StampSlot loaded) top = loaded ≡ top
HasTop (StampSwap loaded) top = loaded ≡ top
HasTop _ top = ⊥

-- so many commits had happened at a step of the call
pub record HadHappened (old new : PassView) (index : ℕ) : Type 0 where
  pub known : length old.history ≤ index
  pub happened : index ≤ length new.history

-- the caller has the same attempt, which may start later
pub record HasAttempt (p q : Process) : Type 0 where
  pub active : q.caller.state ≡ Active
  pub start : p.caller.start ≤ q.caller.start
  pub writes : q.caller.writes ≡ p.caller.writes
  pub front : q.front ≡ p.front
  pub reads : q.reads ≡ p.reads
  pub sealed : q.sealed ≡ p.sealed
  pub published : q.published ≡ p.published

-- the request goes on
pub record StampsOn {S : Type 0} (old new : RingPass S) : Type 0 where
  pub stage : IsStamp new.local.caller.stage
  pub later : IsLater (view_of old) (view_of new)
  pub has : HasAttempt (process_now old) (process_now new)
  pub top : (top : ℕ) → HasTop new.local.caller.stage top → HadHappened (view_of old) (view_of new) top
  pub seals : new.seals ≡ old.seals
  pub rose : steps_made old ≤ steps_made new
  pub steps : steps_made new + steps_of new.local ≤ steps_made old + steps_of old.local

-- its last step, a load or the swap, answered it
pub data IsAnswered {S : Type 0} (good : S → List ℕ → List ℕ → Type 0) (budget : S → List ℕ → ℕ) (about : About S) (table : TableId)
    (old new : RingPass S) (progress : Progress) : Type 0 where
  by_load : (last : RingPass S) → IsSeated good budget about table last → StampsOn old last → Stepped good budget last new progress
      → steps_of new.local < steps_of last.local → IsLoad (next_action last.local.shape last.local.caller) → progress ≢ answer.Going
      → IsAnswered good budget about table old new progress
  by_swap : (last : RingPass S) → IsSeated good budget about table last → StampsOn old last → Exchanged good budget last new progress
      → steps_of new.local < steps_of last.local → IsAnswered good budget about table old new progress

-- ---- the answer
-- the attempt is the last commit of the history that the pass knows, and the last of its own. It isn't complete yet
pub record BecameCommit (opening : List ℕ) (old new : PassView) (before now : Attempt) (number : ℕ) : Type 0 where
  pub stamped : new.state ≡ Stamped
  pub history : IsBeginning old.history new.history
  pub last : number ≡ length new.history
  pub there : slice_get new.history (number - 1) ≡ Some (commit_of before old.owned)
  -- the state before it is one that the attempt may have read from
  pub fits : Fits (state_at opening new.history (number - 1)) before old.owned
  pub later : length old.history < number
  pub after_start : before.start < number
  pub front : old.front ≤ new.front
  pub mine : new.mine ≡ old.mine ++ number ∷ []
  pub owned : new.owned ≡ old.owned
  pub share : new.share ≡ old.share
  pub reads : now.reads ≡ before.reads
  pub writes : now.writes ≡ before.writes
  pub sealed : now.sealed ≡ before.sealed
  pub published : now.published ≡ before.published

-- the index that the call loaded, which isn't the greatest that there may be
pub record LoadedIndex (life : ℕ) (old new : PassView) (index : ℕ) : Type 0 where
  pub happened : HadHappened old new index
  pub free : index < life

-- the last step of the call found this word
pub record FoundLast {S : Type 0} (steps_before : ℕ) (new : RingPass S) (word : ℕ) (step : Kind) : Type 0 where
  pub rose : steps_before < steps_made new
  pub found : last_found new ≡ word
  pub of_kind : last_kind new ≡ Some step

module _ {S : Type 0} (about : About S) (old new : RingPass S) where
  abbrev pub Loads : ℕ → Type 0
  Loads index = LoadedIndex about.shape.life (view_of old) (view_of new) index

  -- why it has to be tried again
  abbrev pub IsBusy : Later → Type 0
  -- the swap found another index than the one checked
  IsBusy (later.Lost index) =
      ((top : ℕ) × Loads top × (top < index)) × (index ≡ length (view_of new).history) × FoundLast (steps_made old) new index kind.SwapIndex
  -- the newest entry isn't published
  IsBusy (later.Unpublished entry tag) =
      Loads entry × (tag < writing entry) × ((view_of new).front < entry) × FoundLast (steps_made old) new tag kind.LoadTag
  -- the entry whose slot is wanted next isn't complete
  IsBusy (later.SlotBusy entry tag) =
      ((top : ℕ) × Loads top × (top + 1 ≡ entry + about.shape.ring)) × (tag < complete entry) × ((view_of new).front < entry)
      × FoundLast (steps_made old) new tag kind.LoadTag
  IsBusy (later.Order entry tag) = ⊥

  -- the attempt goes on as it was
  abbrev pub KeepsAttempt : Type 0
  KeepsAttempt = GoesOnWith (view_of old) (view_of new) (attempt_now old) (attempt_now new) (attempt_now old).reads (attempt_now old).writes

  abbrev pub AnswersStamp : Answer → Type 0
  AnswersStamp (stamp.Stamped number) =
      BecameCommit (made_of about).opening (view_of old) (view_of new) (attempt_now old) (attempt_now new) number
  AnswersStamp (stamp.Later why) = KeepsAttempt × IsBusy why
  AnswersStamp (stamp.Stopped stop) =
      Ended (view_of old) (view_of new) (attempt_now old)
      × shows_in about.shape (view_of new).history (attempt_now old).start (addresses (attempt_now old).reads) stop × ((top : ℕ) × Loads top)
  AnswersStamp (stamp.Worn index) = WornOut about.shape.life (view_of old) (view_of new) (attempt_now old) index

-- what the call says. `Worn` comes exactly where the index that it loaded is the greatest: every other answer is by a smaller one
abbrev pub StampAnswer : {S : Type 0} → Ring S → RingPass S → RingPass S → Answer → Type 0
StampAnswer ring old new = AnswersStamp ring.words.shared.key old new

-- neither a stop nor another caller
abbrev pub MeetsNobody : Answer → Type 0
MeetsNobody (stamp.Stamped number) = Unit {0}
MeetsNobody (stamp.Worn index) = Unit {0}
MeetsNobody (stamp.Later why) = ⊥
MeetsNobody (stamp.Stopped stop) = ⊥
