-- What the steps of a seat tell it, of the word that was found and of its own view.
use Rattle.std.specs.Prelude.{◌≡◌, ◌≢◌, ℕ, ◌+◌, ◌-◌, ◌%◌, ◌<◌, ◌≤◌, ◌++◌, List, [], ◌∷◌, length, Option, Some, Contains, slice_get, slice_index}
use Rattle.atomic_table.specs.Table.{Me, Step}
use Rattle.tx_model.specs.declared.gate.Region.{Region}
use Rattle.tx_model.specs.declared.history.Commit.{Commit}
use Rattle.tx_model.specs.declared.pass.PassState.TheVariants.{Idle, Stamped}
use Rattle.tx_model.specs.declared.pass.PassState.{PassState}
use Rattle.tx_model.specs.declared.view.PassView.{PassView}
use Rattle.tx_model.specs.Memory.{Agrees}
use Rattle.tx_model.specs.Attempt.{Fits}
use Rattle.tx_model.specs.History.{state_at, IsLegal, HasWriters, IsBeginning, IsGoodHistory}
use Rattle.tx_model.specs.Rule.{AttemptFollows, FollowsRules}
use Rattle.tx_model.specs.Pass.{IsWhole, KnowsAll, OwnsRegion, OwnsSealed}
use Rattle.ring_core.specs.declared.shape.Shape.{Shape}
use Rattle.ring_core.specs.declared.action.Action.TheVariants.{LoadIndex}
use Rattle.ring_core.specs.declared.action.Progress.{Progress}
use Rattle.ring_core.specs.declared.action.Progress.TheVariants.{Later}
use Rattle.ring_core.specs.declared.action.Later.TheVariants.{Unpublished, SlotBusy, Order}
use Rattle.ring_core.specs.Kinds.{kind_at}
use Rattle.ring_core.specs.Request.{next_action}
use Rattle.ring_core.specs.Outcomes.{Outcome, absorbed}
use Rattle.ring_core.specs.Sound as core
use Rattle.ring_core.specs.Tags.{complete}
use Rattle.ring_core.specs.Words.{CanAbsorb}
use Rattle.ring_worlds.specs.declared.process.Process.{Process}
use Rattle.ring_worlds.specs.World.{Board, attempt_of, commit_of, moved_on}
use Rattle.ring_worlds.specs.Answers.{Tells}
use Rattle.ring_words.specs.declared.table.About.{About}
use Rattle.ring_words.specs.declared.table.Knowledge.{Knowledge}
use Rattle.ring_words.specs.Ring.{Given, given_of, made_of, front_of, IsPlain}

-- what is known of a history of this ring
pub record IsHistory {S : Type 0} (good : S → List ℕ → List ℕ → Type 0) (budget : S → List ℕ → ℕ) (about : About S) (history : List Commit) : Type 0 where
  pub legal : IsLegal (made_of about).opening history
  pub writers : HasWriters history
  pub rules : FollowsRules (made_of about).opening (made_of about).regions history
  pub good_states : IsGoodHistory (good (made_of about).sense (made_of about).opening) (budget (made_of about).sense) (made_of about).opening history
  pub lasts : length history ≤ about.shape.life

-- what is known of a caller: its attempt reads from one state, and did only what it may; where it is stamped, the attempt is a commit of the history
pub record IsKnown (given : Given) (history : List Commit) (p : Process) : Type 0 where
  pub machine : core.IsSound given.shape p.caller
  pub since : p.caller.state ≢ Idle → p.front ≤ p.caller.start
  pub agree : p.caller.state ≢ Idle → Agrees p.reads (state_at given.opening history p.caller.start)
  pub follows : AttemptFollows given.opening given.regions (attempt_of p)
  pub publishes : (region : Region) → Contains p.published region → OwnsRegion p.owned region
  pub committed : p.caller.state ≡ Stamped → slice_get history (p.caller.stamp - 1) ≡ Some (commit_of p)

-- a stamped caller was stamped before, with the same attempt
pub record KeepsCommit (p q : Process) : Type 0 where
  pub was : p.caller.state ≡ Stamped
  pub stamp : q.caller.stamp ≡ p.caller.stamp
  pub same : attempt_of q ≡ attempt_of p

-- a caller in this state, with what its seat knows, as a pass
abbrev pub pass_in : {S : Type 0} → PassState → Knowledge S → PassView
pass_in state k =
    record { state = state; history = k.history; front = front_of k.process; mine = k.mine; owned = k.process.owned; share = k.share }

-- the seat knows all there is to know, where no other one lives and its own commits are complete
abbrev pub KnowsWhole : {S : Type 0} → Knowledge S → Type 0
KnowsWhole k =
    IsWhole (pass_in k.process.caller.state k) → k.process.caller.state ≢ Stamped
    → KnowsAll (pass_in k.process.caller.state k) × OwnsSealed (made_of k.about).opening (made_of k.about).regions (pass_in k.process.caller.state k)

-- what a seat knows after each of its steps, of its own view by itself
pub record Knows {S : Type 0} (good : S → List ℕ → List ℕ → Type 0) (budget : S → List ℕ → ℕ) (k : Knowledge S) : Type 0 where
  pub history_is : IsHistory good budget k.about k.history
  pub process_is : IsKnown (given_of k.about) k.history k.process
  pub plain : IsPlain k
  pub whole : KnowsWhole k

-- what a seat knows, and the slots that it holds
abbrev pub Sat : Type 0 → Type 0
Sat S = Me ℕ (Option (Knowledge S))

-- the view after a step of a caller that has become this one: it found a word, and knows this history
abbrev pub after_step : {S : Type 0} → Knowledge S → Process → ℕ → List Commit → Knowledge S
after_step k moved found history =
    record {
      about = k.about;
      process = moved_on k.about.shape (made_of k.about).opening history moved found;
      history = history;
      other = [];
      mine = k.mine;
      share = k.share;
      steps = k.steps + 1;
      found = found;
      kind = kind_at moved.caller.stage;
    }

-- the view after a swap that found the index expected: the commit is the last of the history, and the last of the seat's own
abbrev pub after_won : {S : Type 0} → Knowledge S → Process → ℕ → List Commit → Knowledge S
after_won k moved found history =
    record (after_step k moved found history) { history = history ++ commit_of moved ∷ []; mine = k.mine ++ (found + 1) ∷ [] }

-- an entry that is waited for isn't complete, so its number is past those known to be
abbrev pub IsAhead : ℕ → Progress → Type 0
IsAhead front (Later (Unpublished entry tag)) = front < entry
IsAhead front (Later (SlotBusy entry tag)) = front < entry
IsAhead front (Later (Order entry tag)) = front < entry
IsAhead front _ = Unit {0}

-- the history, and the tags that an answer may speak of
abbrev pub board_with : List Commit → List ℕ → Board
board_with history tags = record { history = history; tags = tags; sigs = []; complete = 0 }

-- by these tags, all entries before this one are complete
abbrev pub AreEarlierComplete : Shape → List ℕ → ℕ → Type 0
AreEarlierComplete shape tags stamp = (entry : ℕ) → 1 ≤ entry → entry < stamp → complete entry ≤ slice_index tags (entry % shape.ring)

-- what the answer says, of a caller that found this word
abbrev pub TellsOn : Given → Board → Process → Outcome → Type 0
TellsOn given b moved o = Tells given.shape given.opening given.regions b moved moved.caller.stage o.caller.start o.progress

module _ {S : Type 0} (good : S → List ℕ → List ℕ → Type 0) (budget : S → List ℕ → ℕ) where
  -- a step that finds a word: the caller takes it in, and its seat knows no less of the history than before
  pub record LoadedFrom (old : Knowledge S) (moved : Process) (found : ℕ) (new : Sat S) : Type 0 where
    pub history : List Commit
    pub now : new.0 ≡ Some (after_step old moved found history)
    pub longer : IsBeginning old.history history
    pub can : CanAbsorb old.about.shape moved.caller found
    pub tags : List ℕ
    pub index : next_action old.about.shape moved.caller ≡ LoadIndex → found ≡ length history
    pub tells : TellsOn (given_of old.about) (board_with history tags) moved (absorbed old.about.shape moved.caller found)
    pub start : moved.caller.state ≢ Idle → moved.caller.start ≤ (after_step old moved found history).process.caller.start
    pub front : front_of old.process ≤ front_of (after_step old moved found history).process
    pub ahead : IsAhead (front_of (after_step old moved found history).process) (absorbed old.about.shape moved.caller found).progress
    pub owned : (after_step old moved found history).process.owned ≡ old.process.owned
    pub stamped : (after_step old moved found history).process.caller.state ≡ Stamped → KeepsCommit moved (after_step old moved found history).process
    pub knows : Knows good budget (after_step old moved found history)
    -- a stamped seat that is the only one waits for nobody
    pub alone : IsWhole (pass_in old.process.caller.state old) → old.process.caller.state ≡ Stamped
        → AreEarlierComplete old.about.shape tags old.process.caller.stamp

  pub record Loaded (moved : Process) (found : ℕ) (me new : Sat S) : Type 0 where
    pub old : Knowledge S
    pub before : me.0 ≡ Some old
    pub slots : new.1 ≡ me.1
    pub step : LoadedFrom old moved found new

  abbrev pub Loads : Process → Step ℕ → Sat S → ℕ → Sat S → Type 0
  Loads moved step me found new = Loaded moved found me new

  -- a store finds 0, whatever was there
  abbrev pub Stores : Process → Step ℕ → Sat S → ℕ → Sat S → Type 0
  Stores moved step me word new = Loaded moved 0 me new

  -- a swap that found the index expected: the state before the commit fits the attempt
  pub record WonFrom (old : Knowledge S) (moved : Process) (found : ℕ) (new : Sat S) : Type 0 where
    pub history : List Commit
    pub now : new.0 ≡ Some (after_won old moved found history)
    pub longer : IsBeginning old.history history
    pub last : found ≡ length history
    pub can : CanAbsorb old.about.shape moved.caller found
    pub front : front_of old.process ≤ front_of (after_won old moved found history).process
    pub owned : (after_won old moved found history).process.owned ≡ old.process.owned
    pub fits : Fits (state_at (made_of old.about).opening history (length history)) (attempt_of moved) moved.owned
    pub knows : Knows good budget (after_won old moved found history)

  pub record Won (moved : Process) (found : ℕ) (me new : Sat S) : Type 0 where
    pub old : Knowledge S
    pub before : me.0 ≡ Some old
    pub slots : new.1 ≡ me.1
    pub step : WonFrom old moved found new

  -- a swap of the index
  pub data Swapped (moved : Process) (from found : ℕ) (me new : Sat S) : Type 0 where
    found_expected : found ≡ from → Won moved found me new → Swapped moved from found me new
    found_other : found ≢ from → Loaded moved found me new → Swapped moved from found me new

  abbrev pub Swaps : Process → Step ℕ → Sat S → ℕ → Sat S → Type 0
  Swaps moved step me found new = Swapped moved step.first found me new

  -- a seat that another one was joined into: both histories are beginnings of one
  pub record Looked (me new : Sat S) : Type 0 where
    pub old : Knowledge S
    pub before : me.0 ≡ Some old
    pub now : new.0 ≡ Some (record old { other = [] })
    pub slots : new.1 ≡ me.1
    pub other : IsBeginning old.other old.history
    pub plain : IsPlain old
    pub whole : KnowsWhole old

  abbrev pub Looks : Step ℕ → Sat S → ℕ → Sat S → Type 0
  Looks step me found new = Looked me new
