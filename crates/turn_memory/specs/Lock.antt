-- The rule of the table, and what each step tells.
use Rattle.std.specs.Prelude.{◌≡◌, ◌≢◌, ◌⊎◌, ℕ, ◌+◌, ◌<◌, ◌≤◌, nat_lt, List, [], ◌∷◌, ◌++◌, length, slice_index, Option, Some, None, Contains, if◌then◌else◌}
use mathlib.Core.Option.{some, none}
use lib.ListN.{get_elem?}
use Rattle.atomic_table.specs.Table.{State, Me, Step, Allows, rest}
use Rattle.tx_model.specs.declared.gate.Region.{Region}
use Rattle.tx_model.specs.declared.gate.TheConstants.{GATE_SEALED}
use Rattle.tx_model.specs.declared.history.Commit.{Commit}
use Rattle.tx_model.specs.declared.pass.PassState.TheVariants.{Idle, Active, Stamped}
use Rattle.tx_model.specs.declared.view.PassView.{PassView}
use Rattle.tx_model.specs.declared.view.Attempt.{Attempt}
use Rattle.tx_model.specs.Words.{AreApart}
use Rattle.tx_model.specs.Memory.{Agrees}
use Rattle.tx_model.specs.History.{state_at, IsLegal, HasWriters, IsBeginning, IsGoodHistory}
use Rattle.tx_model.specs.Shares.{Name, AreJoined, AreApartWithin, joined}
use Rattle.tx_model.specs.Holders.{AreNamed, HaveAll, HaveOnce}
use Rattle.tx_model.specs.Made.{Made}
use Rattle.tx_model.specs.Rule.{FollowsRule, FollowsRules}
use Rattle.tx_model.specs.Pass.{AreStamps, IsWhole, KnowsAll}
use Rattle.tx_model.specs.Attempt.{commit_of}
use Rattle.tx_model.specs.Calls.{left_of, right_of, merged}
use Rattle.turn_memory.specs.declared.table.About.{About}
use Rattle.turn_memory.specs.declared.table.Knowledge.{Knowledge}
use Rattle.turn_memory.specs.Heap.{HeapView, words_of}

-- which memories are good, and how many commits one leaves room for
abbrev pub GoodOf : Type 0 → Type 1
GoodOf S = S → List ℕ → List ℕ → Type 0

abbrev pub BudgetOf : Type 0 → Type 0
BudgetOf S = S → List ℕ → ℕ

abbrev pub made_of : {S : Type 0} → About S → Made S
made_of about = record { sense = about.sense.value; opening = about.opening.value.items; regions = about.regions.value.items; life = about.life }

abbrev pub made_with : {S : Type 0} → S → List ℕ → List Region → ℕ → Made S
made_with sense opening regions life = record { sense = sense; opening = opening; regions = regions; life = life }

-- the attempt of a pass that has the heap
abbrev pub attempt_on : List Commit → HeapView → Attempt
attempt_on history heap = record { start = length history; reads = heap.reads; writes = heap.writes; sealed = []; published = [] }

-- ---- views
abbrev pub first_pass : PassView
first_pass = record { state = Idle; history = []; front = 0; mine = []; owned = []; share = [] ∷ [] }

-- a seat that knows no further beginning
abbrev pub knowing : {S : Type 0} → About S → PassView → Knowledge S
knowing about pass = record { about = about; pass = pass; other = [] }

abbrev pub first_known : {S : Type 0} → About S → Option (Knowledge S)
first_known about = Some (knowing about first_pass)

abbrev pub spent_pass : PassView
spent_pass = record { state = Idle; history = []; front = 0; mine = []; owned = []; share = [] }

abbrev pub longer : List Commit → List Commit → List Commit
longer history other = if nat_lt (length history) (length other) then other else history

abbrev pub shorter : List Commit → List Commit → List Commit
shorter history other = if nat_lt (length history) (length other) then history else other

-- the two passes as one, with the longer history
abbrev pub both_passes : PassView → PassView → PassView
both_passes pass other =
    record {
      state = pass.state;
      history = longer pass.history other.history;
      front = length (longer pass.history other.history);
      mine = merged pass.mine other.mine;
      owned = pass.owned ++ other.owned;
      share = joined pass.share other.share;
    }

module _ {S : Type 0} where
  abbrev pub pass_of : Option (Knowledge S) → PassView
  pass_of None = spent_pass
  pass_of (Some knowledge) = knowledge.pass

  abbrev pub share_of : Option (Knowledge S) → List Name
  share_of known = (pass_of known).share

  abbrev pub mine_of : Option (Knowledge S) → List ℕ
  mine_of known = (pass_of known).mine

  abbrev pub with_pass : (PassView → PassView) → Option (Knowledge S) → Option (Knowledge S)
  with_pass change None = None
  with_pass change (Some knowledge) = Some (record { about = knowledge.about; pass = change knowledge.pass; other = knowledge.other })

  abbrev pub left_known : Option (Knowledge S) → Option (Knowledge S)
  left_known known = with_pass left_of known

  abbrev pub right_known : Option (Knowledge S) → Option (Knowledge S)
  right_known known = with_pass right_of known

  abbrev pub both_known : Option (Knowledge S) → Option (Knowledge S) → Option (Knowledge S)
  both_known None other = None
  both_known (Some knowledge) None = Some knowledge
  both_known (Some knowledge) (Some other) =
      Some (record { about = knowledge.about; pass = both_passes knowledge.pass other.pass; other = shorter knowledge.pass.history other.pass.history })

-- ---- the rule
-- no gate is sealed: no call of this memory seals one
abbrev pub NoneSealed : List Region → List ℕ → Type 0
NoneSealed regions memory = (region : Region) → Contains regions region → slice_index memory region.gate ≢ GATE_SEALED

-- what is known of a history of the memory that was made with this
pub record IsHistoryOf {S : Type 0} (good : GoodOf S) (budget : BudgetOf S) (made : Made S) (history : List Commit) : Type 0 where
  pub legal : IsLegal made.opening history
  pub writers : HasWriters history
  pub rules : FollowsRules made.opening made.regions history
  pub good_states : IsGoodHistory (good made.sense made.opening) (budget made.sense) made.opening history
  pub lasts : length history ≤ made.life
  pub unsealed : (k : ℕ) → k ≤ length history → NoneSealed made.regions (state_at made.opening history k)

abbrev pub IsHistory : {S : Type 0} → GoodOf S → BudgetOf S → About S → List Commit → Type 0
IsHistory good budget about history = IsHistoryOf good budget (made_of about) history

-- the names of a pass that lives
pub record AreNames (share : List Name) : Type 0 where
  pub some : share ≢ []
  pub joined : AreJoined share
  pub apart : AreApartWithin share

-- what is known of a pass by itself: all commits are complete, and no region has an owner
pub record IsPlain (pass : PassView) : Type 0 where
  pub front : pass.front ≡ length pass.history
  pub mine : AreStamps (length pass.history) pass.mine
  pub owned : pass.owned ≡ []
  pub not_stamped : pass.state ≢ Stamped
  pub names : AreNames pass.share

-- and with the history that it knows
pub record IsKnown {S : Type 0} (good : GoodOf S) (budget : BudgetOf S) (about : About S) (pass : PassView) : Type 0 where
  pub history_is : IsHistory good budget about pass.history
  pub plain : IsPlain pass
  pub whole : IsWhole pass → KnowsAll pass

-- both are beginnings of the history, and the second one is no longer
pub record AreLearned (history first second : List Commit) : Type 0 where
  pub known : IsBeginning first history
  pub other : IsBeginning second history
  pub shorter : length second ≤ length first

-- a seat knows a beginning of the history, and the whole of it while it has the lock
pub record IsSeat {S : Type 0} (about : About S) (history : List Commit) (knowledge : Knowledge S) : Type 0 where
  pub told : knowledge.about ≡ about
  pub learned : AreLearned history knowledge.pass.history knowledge.other
  pub plain : IsPlain knowledge.pass
  pub active : knowledge.pass.state ≡ Active → knowledge.pass.history ≡ history

module _ {S : Type 0} (views : List (Option (Knowledge S))) where
  -- the names of different seats are apart, and each commit is one seat's own
  pub record HaveShares (count : ℕ) : Type 0 where
    pub names : AreNamed share_of views
    pub all : HaveAll mine_of views count
    pub once : HaveOnce mine_of views

  -- only this seat may have the lock
  abbrev pub OnlyActive : ℕ → Type 0
  OnlyActive holder = (i : ℕ) (known : Option (Knowledge S)) → get_elem? views i ≡ some known → (pass_of known).state ≡ Active → i ≡ holder

  -- the seat has the lock
  abbrev pub IsBusy : ℕ → Type 0
  IsBusy holder = (known : Option (Knowledge S)) × (get_elem? views holder ≡ some known) × ((pass_of known).state ≡ Active)

  abbrev pub NoneActive : Type 0
  NoneActive = (i : ℕ) (known : Option (Knowledge S)) → get_elem? views i ≡ some known → (pass_of known).state ≢ Active

-- the heap holds the last state of the history
pub record HoldsLast (opening : List ℕ) (history : List Commit) (heap : HeapView) : Type 0 where
  pub words : words_of heap ≡ state_at opening history (length history)
  pub commits : heap.commits ≡ length history

module _ {S : Type 0} (opening : List ℕ) (history : List Commit) (s : State (Option HeapView) (Option (Knowledge S))) where
  pub record IsFree : Type 0 where
    pub word : slice_index s.words 0 ≡ 0
    pub heap : HeapView
    pub home : get_elem? s.homes 0 ≡ some (some (Some heap))
    pub last : HoldsLast opening history heap
    pub nobody : NoneActive s.views

  pub record IsTaken : Type 0 where
    pub word : slice_index s.words 0 ≢ 0
    pub away : get_elem? s.homes 0 ≡ some none
    pub holder : ℕ
    pub busy : IsBusy s.views holder
    pub only : OnlyActive s.views holder

pub record IsTable {S : Type 0} (good : GoodOf S) (budget : BudgetOf S) (about : About S) (s : State (Option HeapView) (Option (Knowledge S))) : Type 0 where
  pub history : List Commit
  pub history_is : IsHistory good budget about history
  pub one_word : length s.words ≡ 1
  pub one_slot : length s.homes ≡ 1
  pub seats : (i : ℕ) (knowledge : Knowledge S) → get_elem? s.views i ≡ some (Some knowledge) → IsSeat about history knowledge
  pub shares : HaveShares s.views (length history)
  pub lock : IsFree (made_of about).opening history s ⊎ IsTaken (made_of about).opening history s

-- the state after the whole history
abbrev pub last_state : {S : Type 0} → Made S → List Commit → List ℕ
last_state made history = state_at made.opening history (length history)

-- ---- what the steps tell
abbrev pub active_with : List Commit → PassView → PassView
active_with history pass = record { state = Active; history = history; front = length history; mine = pass.mine; owned = pass.owned; share = pass.share }

abbrev pub idle_again : PassView → PassView
idle_again pass = record { state = Idle; history = pass.history; front = pass.front; mine = pass.mine; owned = pass.owned; share = pass.share }

-- the pass with one more commit, which is its own
abbrev pub with_commit : HeapView → PassView → PassView
with_commit heap pass =
    record {
      state = Idle;
      history = pass.history ++ commit_of (attempt_on pass.history heap) [] ∷ [];
      front = length pass.history + 1;
      mine = pass.mine ++ (length pass.history + 1) ∷ [];
      owned = pass.owned;
      share = pass.share;
    }

-- what a seat knows, and the slots that it holds
abbrev pub Sat : Type 0 → Type 0
Sat S = Me (Option HeapView) (Option (Knowledge S))

module _ {S : Type 0} where
  -- this holds of what the seat knew
  abbrev pub Knew : Option (Knowledge S) → (Knowledge S → Type 0) → Type 0
  Knew known Holds = (old : Knowledge S) × (known ≡ Some old) × Holds old

  -- the lock was free, and the seat has it with the heap, and knows the whole history
  pub record Took (good : GoodOf S) (budget : BudgetOf S) (old : Knowledge S) (held : List (ℕ × Option HeapView)) (new : Sat S) : Type 0 where
    pub history : List Commit
    pub heap : HeapView
    pub now : new ≡ (Some (knowing old.about (active_with history old.pass)), (0, Some heap) ∷ held)
    pub longer : IsBeginning old.pass.history history
    pub is_known : IsKnown good budget old.about (active_with history old.pass)
    pub last : HoldsLast (made_of old.about).opening history heap

  abbrev pub TookLock : GoodOf S → BudgetOf S → Sat S → Sat S → Type 0
  TookLock good budget me new = Knew me.0 (λ old. Took good budget old me.1 new)

  abbrev pub Takes : GoodOf S → BudgetOf S → Step (Option HeapView) → Sat S → ℕ → Sat S → Type 0
  Takes good budget step me found new = (found ≡ 0 → TookLock good budget me new) × (found ≢ 0 → new ≡ me)

  abbrev pub Releases : Step (Option HeapView) → Sat S → ℕ → Sat S → Type 0
  Releases step me found new = new ≡ (with_pass idle_again me.0, rest me.1)

  abbrev pub Publishes : Step (Option HeapView) → Sat S → ℕ → Sat S → Type 0
  Publishes step me found new = (heap : HeapView) → me.1 ≡ (0, Some heap) ∷ rest me.1 → new ≡ (with_pass (with_commit heap) me.0, rest me.1)

  -- both beginnings are of the history that the seat knows
  pub record Learned (good : GoodOf S) (budget : BudgetOf S) (old : Knowledge S) (held : List (ℕ × Option HeapView)) (new : Sat S) : Type 0 where
    pub now : new ≡ (Some (knowing old.about old.pass), held)
    pub other : IsBeginning old.other old.pass.history
    pub is_known : IsKnown good budget old.about old.pass

  abbrev pub Looked : GoodOf S → BudgetOf S → Sat S → Sat S → Type 0
  Looked good budget me new = Knew me.0 (λ old. Learned good budget old me.1 new)

  abbrev pub Looks : GoodOf S → BudgetOf S → Step (Option HeapView) → Sat S → ℕ → Sat S → Type 0
  Looks good budget step me found new = Looked good budget me new

module _ {S : Type 0} (holds : State (Option HeapView) (Option (Knowledge S)) → Type 0) (tells : Step (Option HeapView) → Sat S → ℕ → Sat S → Type 0) where
  -- the seat may make the step, whatever its operands are
  abbrev pub MayStep : ℕ → ℕ → Sat S → (ℕ → ℕ) → Type 0
  MayStep slots id me f = (step : Step (Option HeapView)) → Allows holds slots id me 0 f (tells step me)

-- some step told this
abbrev pub Told : {S : Type 0} → (Step (Option HeapView) → Sat S → ℕ → Sat S → Type 0) → Sat S → ℕ → Sat S → Type 0
Told tells me found new = (step : Step _) × tells step me found new

module _ {S : Type 0} where
  -- the seat has the lock, and the slot that it took is empty
  pub record HasLock (me : Sat S) : Type 0 where
    pub knowledge : Knowledge S
    pub known : me.0 ≡ Some knowledge
    pub active : knowledge.pass.state ≡ Active
    pub slot : me.1 ≡ (0, None) ∷ []

  -- the heap is as it was when the lock was taken
  pub record MayRelease (me : Sat S) (heap : HeapView) : Type 0 where
    pub lock : HasLock me
    pub last : HoldsLast (made_of lock.knowledge.about).opening lock.knowledge.pass.history heap

  -- the heap is as an attempt left it, whose commit leads on from the last state
  pub record LeadsOn (good : GoodOf S) (budget : BudgetOf S) (made : Made S) (history : List Commit) (heap : HeapView) : Type 0 where
    pub words : heap.words ≡ last_state made history
    pub reads : Agrees heap.reads (last_state made history)
    pub writes : heap.writes ≢ []
    pub apart : AreApart heap.writes
    pub follows : FollowsRule made.opening made.regions (commit_of (attempt_on history heap) [])
    pub commits : heap.commits ≡ length history + 1
    pub unsealed : NoneSealed made.regions (words_of heap)
    pub room : length history < made.life
    pub is_good : good made.sense made.opening (words_of heap)
    pub budget_falls : budget made.sense (words_of heap) < budget made.sense (last_state made history)

  pub record MayPublish (good : GoodOf S) (budget : BudgetOf S) (me : Sat S) (heap : HeapView) : Type 0 where
    pub lock : HasLock me
    pub leads_on : LeadsOn good budget (made_of lock.knowledge.about) lock.knowledge.pass.history heap
