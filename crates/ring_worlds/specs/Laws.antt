-- Laws of worlds.
use Rattle.std.specs.Prelude.{◌≡◌, ◌≢◌, ℕ, ◌-◌, ◌<◌, ◌≤◌, ◌++◌, List, [], ◌∷◌, length, Some, slice_get, true, Contains}
use mathlib.Core.Option.{some}
use lib.ListN.{get_elem?}
use Rattle.tx_model.specs.declared.gate.Region.{Region}
use Rattle.tx_model.specs.declared.pass.PassState.TheVariants.{Idle, Active, Stamped}
use Rattle.tx_model.specs.declared.view.Owned.{Owned}
use Rattle.tx_model.specs.declared.history.Commit.{Commit}
use Rattle.tx_model.specs.Words.{HasAddress, word_at}
use Rattle.tx_model.specs.Made.{IsIn}
use Rattle.tx_model.specs.Memory.{words_in}
use Rattle.tx_model.specs.Opacity.{ReadFromState}
use Rattle.ring_core.specs.declared.shape.Shape.{Shape}
use Rattle.ring_core.specs.declared.kind.Kind.{Kind}
use Rattle.ring_core.specs.Request.{is_open, next_action}
use Rattle.ring_core.specs.Words.{CanAbsorb}
use Rattle.ring_core.specs.Steps.{steps_left}
use Rattle.ring_worlds.specs.declared.process.Process.{Process}
use Rattle.ring_worlds.specs.World.{World, board_of, with_process}
use Rattle.ring_worlds.specs.Sound.{Sound, IsProcess}
use Rattle.ring_worlds.specs.Steps.{Steps, found}
use Rattle.ring_worlds.specs.Learns.{start_after, Learns}
use Rattle.ring_worlds.specs.Calls.{process_at}
use Rattle.ring_worlds.specs.Moves.{Moves, OwnerStores}
use Rattle.ring_worlds.specs.Stored.{stored_at}
use Rattle.ring_worlds.specs.Runs.{MayOpen, opening_world, resting, Runs}

-- a step of this kind keeps a world sound, and its answer is true
abbrev pub KindKeeps : Kind → Type 0
KindKeeps kind = (w next : World) (who : ℕ) → Sound w → (step : Steps w who kind next) → Sound next × Learns w next step.process

-- a step of any kind
abbrev pub StepsKeep : Type 0
StepsKeep = (kind : Kind) → KindKeeps kind

-- a caller with an open request may take in the word that its step finds
abbrev pub MayAbsorb : Type 0
MayAbsorb =
    (w : World) (who : ℕ) (p : Process) → Sound w → get_elem? w.processes who ≡ some p → is_open p.caller.stage ≡ true
    → CanAbsorb w.shape p.caller (found w (next_action w.shape p.caller))

-- no step moves the start of an attempt back
abbrev pub StartStays : Type 0
StartStays =
    (w : World) (who : ℕ) (p : Process) → Sound w → get_elem? w.processes who ≡ some p → is_open p.caller.stage ≡ true → p.caller.state ≢ Idle
    → p.caller.start ≤ start_after w p

-- it has exactly one next world
abbrev pub StepExists : Type 0
StepExists =
    (w : World) (who : ℕ) (p : Process) → get_elem? w.processes who ≡ some p → is_open p.caller.stage ≡ true
    → (kind : Kind) × (next : World) × Steps w who kind next

abbrev pub StepUnique : Type 0
StepUnique =
    (w one other : World) (who : ℕ) (kind other_kind : Kind) → Steps w who kind one → Steps w who other_kind other → (kind ≡ other_kind) × (one ≡ other)

-- a step leaves its caller with fewer steps in its request, and all callers are there
pub record IsShorter (w next : World) (who : ℕ) (p : Process) : Type 0 where
  pub fewer : steps_left w.shape (process_at next who).caller < steps_left w.shape p.caller
  pub shape : next.shape ≡ w.shape
  pub callers : length next.processes ≡ length w.processes

abbrev pub StepsShorten : Type 0
StepsShorten = (w next : World) (who : ℕ) (kind : Kind) → Sound w → (step : Steps w who kind next) → IsShorter w next who step.process

-- what a caller does without a step keeps a world sound
abbrev pub MoveKeeps : Type 0
MoveKeeps = (w next : World) (who : ℕ) → Sound w → Moves w who next → Sound next

abbrev pub OpeningIsSound : Type 0
OpeningIsSound =
    (shape : Shape) (regions : List Region) (words : List ℕ) (callers : ℕ) → MayOpen shape regions words → Sound (opening_world shape regions words callers)

-- every world that a run leads to is sound
abbrev pub RunKeeps : Type 0
RunKeeps = (w next : World) → Sound w → Runs w next → Sound next

-- so is every world that a run from an opening leads to
abbrev pub ReachedIsSound : Type 0
ReachedIsSound =
    (shape : Shape) (regions : List Region) (words : List ℕ) (callers : ℕ) (w : World) → MayOpen shape regions words
    → Runs (opening_world shape regions words callers) w → Sound w

-- in a sound world the reads of every attempt, also of one that is going to be stopped, are of one state, which is no older than what its caller knew
abbrev pub ReadsFromOneState : Type 0
ReadsFromOneState =
    (w : World) (who : ℕ) (p : Process) → Sound w → get_elem? w.processes who ≡ some p → p.caller.state ≡ Active
    → ReadFromState w.opening w.history p.reads p.caller.start × (p.front ≤ p.caller.start)

-- ---- callers that come and go
-- a caller that has done nothing yet may join at the end
abbrev pub JoinKeeps : Type 0
JoinKeeps = (w : World) → Sound w → Sound (record w { processes = w.processes ++ resting w.shape ∷ [] })

-- a caller without an attempt that owns nothing may be spent
abbrev pub SpendKeeps : Type 0
SpendKeeps =
    (w : World) (who : ℕ) (p : Process) → Sound w → get_elem? w.processes who ≡ some p → p.caller.state ≡ Idle → p.owned ≡ []
    → Sound (with_process w who (resting w.shape))

-- a caller becomes any other one that is sound beside the board, owns the same, and keeps its stamp
abbrev pub BecomeKeeps : Type 0
BecomeKeeps =
    (w : World) (who : ℕ) (p q : Process) (s : Sound w) → get_elem? w.processes who ≡ some p
    → IsProcess w.shape w.opening w.regions (board_of w s.complete) q → q.owned ≡ p.owned
    → p.caller.state ≢ Stamped → q.caller.state ≢ Stamped → Sound (with_process w who q)

-- ---- owned regions
-- the owner of a region stores a word of it
abbrev pub OwnedStoreKeeps : Type 0
OwnedStoreKeeps = (w next : World) (who : ℕ) → Sound w → OwnerStores w who next → Sound next

-- a region that a caller owns is its own
pub record IsPrivate (w : World) (o : Owned) : Type 0 where
  -- the memory has there what its owner left
  pub contents : words_in w.heap o.region ≡ o.now
  -- the commit that sealed it
  pub entry : ℕ
  pub commit : Commit
  pub number : 1 ≤ entry
  pub there : slice_get w.history (entry - 1) ≡ Some commit
  pub seals : Contains commit.sealed o.region
  -- a running attempt that has read a word of it reads from a state before that commit
  pub readers : (who : ℕ) (p : Process) (addr : ℕ) → get_elem? w.processes who ≡ some p → p.caller.state ≡ Active → IsIn addr o.region
      → HasAddress p.reads addr → p.caller.start < entry
  -- and no commit that is being written back has a word of it still to store
  pub writers : (who : ℕ) (p : Process) (index : ℕ) → get_elem? w.processes who ≡ some p → p.caller.state ≡ Stamped
      → stored_at p.caller p.caller.stage ≤ index → index < length p.caller.writes
      → ¬ IsIn (word_at p.caller.writes index).addr o.region

abbrev pub OwnedIsPrivate : Type 0
OwnedIsPrivate = (w : World) (who : ℕ) (p : Process) (o : Owned) → Sound w → get_elem? w.processes who ≡ some p → Contains p.owned o → IsPrivate w o

-- no step of another caller changes a word of it
abbrev pub OthersLeaveOwned : Type 0
OthersLeaveOwned =
    (w next : World) (who other : ℕ) (kind : Kind) (p : Process) (o : Owned) → Sound w → Steps w other kind next → who ≢ other
    → get_elem? w.processes who ≡ some p → Contains p.owned o
    → words_in next.heap o.region ≡ words_in w.heap o.region
