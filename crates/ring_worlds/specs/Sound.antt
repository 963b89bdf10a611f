-- The sound world: what holds of every world that steps and moves lead to.
-- In eleven parts, with the fields that say each:
--  1. the index is the length of a legal history, and every entry below it is published: `indexed`; IsBoard `lived`, `legal`, `published`
--  2. a slot's tag is that of its greatest entry: IsBoard `named`
--  3. the complete entries are 1 to one number, which is the index less the ring at least: `complete`; IsBoard `counted`, `near`, `done`, `undone`
--  4. a slot that is writing or complete has the signature of that entry's writes: IsBoard `signed`
--  5. each other entry is one stamped caller's, whose stage agrees with its tag and with the words stored: `belongs`, `apart`; IsProcess `own`; IsWriting
-- `counted`
--  6. where an entry has begun to store, each earlier one that meets it is complete: IsMemory `waited`
--  7. which entry has stored which word, and a word of the heap is that of the last one: IsMemory `whole`, `partly`, `heap`
--  8. an attempt's start is complete, and its reads agree with the states from it up to a number: IsReaderAt `behind`, `agree`; IsChecked `agree`
--  9. a value that was loaded and isn't checked yet is that of the start, or of a published entry that the check hasn't come to: IsLoaded
-- 10. signature words that a walk has loaded are the entry's, or its slot was filled again: HasWords
-- 11. the words of an owned region are its owner's, and no stamped caller has a store into it still to make: IsMemory `contents`, `spared`; IsOwner
-- All other fields are what these need in order to be kept by every step: IsBoard `slots` and `words` (each index is in its list), `tagged` and
-- `refilled` (how far a tag can be ahead of an entry), `rules` (regions in the history); IsSince (a front is complete); IsReaderAt `signed`, `ruled` and
-- `fresh` (what a check compares, and may be asked); IsLawful (an attempt's own regions); `own_apart` (no word has two owners); IsWriting `cleared` (what
-- a turn has found so far).
use Rattle.std.specs.Prelude.{◌≡◌, ◌≢◌, ℕ, ◌+◌, ◌≤◌, ◌<◌, List, [], length, Some, slice_get, Contains}
use mathlib.Core.Option.{some}
use lib.ListN.{get_elem?}
use Rattle.tx_model.specs.declared.gate.Region.{Region}
use Rattle.tx_model.specs.declared.view.Owned.{Owned}
use Rattle.tx_model.specs.declared.pass.PassState.TheVariants.{Idle, Stamped}
use Rattle.tx_model.specs.Words.{HasAddress}
use Rattle.tx_model.specs.Made.{AreWellFormed, IsIn}
use Rattle.tx_model.specs.Attempt.{MayRead}
use Rattle.tx_model.specs.Pass.{OwnsRegion}
use Rattle.tx_model.specs.Rule.{AttemptFollows}
use Rattle.ring_core.specs.declared.shape.Shape.{Shape}
use Rattle.ring_core.specs.declared.stage.Stage.{Stage}
use Rattle.ring_core.specs.declared.stage.Stage.TheVariants.{ReadHeap, Check}
use Rattle.ring_core.specs.declared.stage.Purpose.TheVariants.{Read}
use Rattle.ring_core.specs.Shape.{IsShape}
use Rattle.ring_core.specs.Sound as core
use Rattle.ring_worlds.specs.declared.process.Process.{Process}
use Rattle.ring_worlds.specs.World.{World, Board, board_of, attempt_of}
use Rattle.ring_worlds.specs.Board.{IsBoard}
use Rattle.ring_worlds.specs.Reader.{IsReader, IsSince}
use Rattle.ring_worlds.specs.Own.{IsOwnAt}
use Rattle.ring_worlds.specs.Owner.{IsOwner}
use Rattle.ring_worlds.specs.Memory.{IsMemory}

-- a word that a read asks of the memory: the attempt may read it, and has not written it
pub record IsAsked (regions : List Region) (p : Process) (addr : ℕ) : Type 0 where
  pub may : MayRead regions (attempt_of p) addr
  pub not_written : HasAddress p.caller.writes addr → ⊥

abbrev pub MayAsk : List Region → Process → Stage → Type 0
MayAsk regions p (ReadHeap addr) = IsAsked regions p addr
MayAsk regions p (Check (Read addr value) stage) = IsAsked regions p addr
MayAsk regions p _ = Unit {0}

-- what the attempt does in regions is by the rule, and it publishes what it owns
pub record IsLawful (opening : List ℕ) (regions : List Region) (p : Process) : Type 0 where
  pub follows : AttemptFollows opening regions (attempt_of p)
  pub asks : MayAsk regions p p.caller.stage
  pub publishes : (region : Region) → Contains p.published region → OwnsRegion p.owned region
  pub quiet : p.caller.state ≡ Idle → (p.sealed ≡ []) × (p.published ≡ [])

-- what one caller is and knows, beside the board
pub record IsProcess (shape : Shape) (opening : List ℕ) (regions : List Region) (b : Board) (p : Process) : Type 0 where
  pub machine : core.IsSound shape p.caller
  pub since : IsSince b p
  pub reader : IsReader shape opening regions b p
  pub own : IsOwnAt shape b p p.caller.stage
  pub lawful : IsLawful opening regions p
  pub owns : (o : Owned) → Contains p.owned o → IsOwner opening regions b p o

-- two stamped callers have commits of their own
abbrev pub HaveOwnStamps : List Process → Type 0
HaveOwnStamps processes = (i j : ℕ) (p q : Process) → get_elem? processes i ≡ some p → get_elem? processes j ≡ some q → i ≢ j
    → p.caller.state ≡ Stamped → q.caller.state ≡ Stamped → p.caller.stamp ≢ q.caller.stamp

-- commit k + 1 is that of a stamped caller
pub record Belongs (processes : List Process) (k : ℕ) : Type 0 where
  pub who : ℕ
  pub process : Process
  pub here : get_elem? processes who ≡ some process
  pub stamped : process.caller.state ≡ Stamped
  pub stamp : process.caller.stamp ≡ k + 1

-- no word is owned twice
abbrev pub OwnApart : List Process → Type 0
OwnApart processes = (i j : ℕ) (p q : Process) (k l : ℕ) (o other : Owned) (addr : ℕ) → get_elem? processes i ≡ some p → get_elem? processes j ≡ some q
    → slice_get p.owned k ≡ Some o → slice_get q.owned l ≡ Some other → IsIn addr o.region → IsIn addr other.region → (i ≡ j) × (k ≡ l)

-- what the world was opened with, and has as many words as
pub record IsOpened (w : World) : Type 0 where
  pub limits : IsShape w.shape
  pub regions : AreWellFormed w.opening w.regions
  pub room : length w.opening ≡ w.shape.heap
  pub heap : length w.heap ≡ w.shape.heap

pub record Sound (w : World) : Type 0 where
  -- exactly the commits 1 to `complete` are complete
  pub complete : ℕ
  pub opened : IsOpened w
  pub indexed : w.index ≡ length w.history
  pub board : IsBoard w.shape w.opening w.regions (board_of w complete)
  pub each : (i : ℕ) (p : Process) → get_elem? w.processes i ≡ some p → IsProcess w.shape w.opening w.regions (board_of w complete) p
  pub apart : HaveOwnStamps w.processes
  -- each entry that isn't complete is a stamped caller's
  pub belongs : (k : ℕ) → complete ≤ k → k < length w.history → Belongs w.processes k
  pub own_apart : OwnApart w.processes
  pub memory : IsMemory w.shape complete w
