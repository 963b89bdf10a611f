-- Who has stored which word of the heap: what holds of it in every world that steps lead to.
use Rattle.std.specs.Prelude.{◌≡◌, ◌⊎◌, ℕ, ◌+◌, ◌-◌, ◌*◌, ◌%◌, ◌<◌, ◌≤◌, List, length, slice_index, slice_set, take, Some, slice_get, Contains}
use mathlib.Core.Option.{some}
use lib.ListN.{get_elem?}
use Rattle.tx_model.specs.declared.view.Owned.{Owned}
use Rattle.tx_model.specs.Made.{IsIn}
use Rattle.tx_model.specs.Memory.{words_in}
use Rattle.tx_model.specs.declared.history.Commit.{Commit}
use Rattle.tx_model.specs.declared.pass.PassState.TheVariants.{Stamped}
use Rattle.tx_model.specs.Words.{addresses, word_at, HasAddress}
use Rattle.tx_model.specs.History.{state_at}
use Rattle.ring_sig.specs.Signature.{IsSignatureOf}
use Rattle.ring_core.specs.declared.shape.Shape.{Shape}
use Rattle.ring_core.specs.declared.caller.Caller.{Caller}
use Rattle.ring_core.specs.declared.stage.Stage.{Stage}
use Rattle.ring_core.specs.declared.stage.Stage.TheVariants.{Turn, Between}
use Rattle.ring_core.specs.declared.stage.TurnStage.{TurnStage}
use Rattle.ring_core.specs.declared.stage.TurnStage.TheVariants.{Earlier, EarlierWords, EarlierAgain, Heap}
use Rattle.ring_core.specs.Tags as tags
use Rattle.ring_worlds.specs.declared.process.Process.{Process}
use Rattle.ring_worlds.specs.World.{World}
use Rattle.ring_worlds.specs.Stored.{words_left, memory_with, stored_at, IsClearOf}

-- a word of a region that some caller owns
pub record IsOwned (processes : List Process) (addr : ℕ) : Type 0 where
  pub who : ℕ
  pub process : Process
  pub here : get_elem? processes who ≡ some process
  pub owned : Owned
  pub among : Contains process.owned owned
  pub inside : IsIn addr owned.region

-- ---- the memory

-- each entry after `from`, but for the caller's own, is complete, or meets none of its writes
abbrev pub Cleared : Shape → ℕ → List Commit → Caller → ℕ → Type 0
Cleared shape complete history c from =
    (k : ℕ) (commit : Commit) → from ≤ k → k + 1 < c.stamp → slice_get history k ≡ Some commit
    → (k < complete) ⊎ IsClearOf (64 * shape.sig_words) commit (addresses c.writes)

module _ (shape : Shape) (complete : ℕ) (history : List Commit) (c : Caller) where
  abbrev pub HasClearedIn : TurnStage → Type 0
  HasClearedIn (Earlier at) = Cleared shape complete history c at
  HasClearedIn (EarlierWords at word) = Cleared shape complete history c at
  HasClearedIn (EarlierAgain at) = Cleared shape complete history c at
  HasClearedIn (Heap index) = Cleared shape complete history c 0
  HasClearedIn _ = Unit {0}

  abbrev pub HasCleared : Stage → Type 0
  HasCleared (Turn stage) = HasClearedIn stage
  HasCleared (Between stage) = HasClearedIn stage
  HasCleared _ = Unit {0}

-- a caller that writes back
pub record IsWriting (shape : Shape) (complete : ℕ) (history : List Commit) (counts : List ℕ) (c : Caller) : Type 0 where
  pub counted : c.state ≡ Stamped → slice_get counts (c.stamp - 1) ≡ Some (stored_at c c.stage)
  pub cleared : HasCleared shape complete history c c.stage

pub record IsMemory (shape : Shape) (complete : ℕ) (w : World) : Type 0 where
  -- how many of its words each entry has stored
  pub counts : List ℕ
  pub sized : length counts ≡ length w.history
  -- a complete entry has stored all its words
  pub whole : (k : ℕ) (commit : Commit) → k < complete → slice_get w.history k ≡ Some commit → slice_get counts k ≡ Some (length (words_left commit))
  -- another one has stored some of its writes
  pub partly : (k count : ℕ) (commit : Commit) → complete ≤ k → slice_get w.history k ≡ Some commit → slice_get counts k ≡ Some count
      → count ≤ length commit.writes
  -- where an entry has begun to store, each earlier one that meets it is complete
  pub waited : (i k count : ℕ) (one other : Commit) → i < k → slice_get w.history i ≡ Some one → slice_get w.history k ≡ Some other
      → slice_get counts k ≡ Some count → 0 < count
      → (i < complete) ⊎ IsClearOf (64 * shape.sig_words) one (addresses other.writes)
  -- a word of the heap is as the last entry that has stored it left it
  pub heap : (addr : ℕ) → ¬ IsOwned w.processes addr → slice_get w.heap addr ≡ slice_get (memory_with w.opening w.history counts) addr
  -- the words of an owned region are as the owner left them
  pub contents : (i : ℕ) (p : Process) (o : Owned) → get_elem? w.processes i ≡ some p → Contains p.owned o → words_in w.heap o.region ≡ o.now
  -- and no stamped caller has one still to store
  pub spared : (i : ℕ) (p : Process) (j : ℕ) → get_elem? w.processes i ≡ some p → p.caller.state ≡ Stamped → stored_at p.caller p.caller.stage ≤ j
      → j < length p.caller.writes → ¬ IsOwned w.processes (word_at p.caller.writes j).addr
  pub writing : (i : ℕ) (p : Process) → get_elem? w.processes i ≡ some p → IsWriting shape complete w.history counts p.caller

-- ---- what a word of the heap is worth

-- the entry leaves a word at this address
pub record Leaves (history : List Commit) (entry addr : ℕ) : Type 0 where
  pub commit : Commit
  pub there : slice_get history (entry - 1) ≡ Some commit
  pub leaves : HasAddress (words_left commit) addr

abbrev pub IsPublished : Shape → World → ℕ → Type 0
IsPublished shape w entry = tags.writing entry ≤ slice_index w.tags (entry % shape.ring)

-- the value is that word's in a state from `start` on: in that one, or in the one after a later published entry that writes the word
pub record IsFrom (shape : Shape) (w : World) (start addr value : ℕ) : Type 0 where
  pub state : ℕ
  pub from : start ≤ state
  pub happened : state ≤ length w.history
  pub here : slice_get (state_at w.opening w.history state) addr ≡ Some value
  pub since : (state ≡ start) ⊎ ((start < state) × IsPublished shape w state × Leaves w.history state addr)

-- ---- what the ring teaches of the word found in the walk of a turn
module _ (shape : Shape) (complete : ℕ) (history : List Commit) (c : Caller) where
  abbrev pub Told : TurnStage → ℕ → Type 0
  Told (Earlier at) tag = tags.complete at ≤ tag → at ≤ complete
  Told (EarlierAgain at) tag = tags.complete at ≤ tag → at ≤ complete
  Told (EarlierWords at j) word =
      j + 1 ≡ shape.sig_words
      → (at ≤ complete) ⊎ ((commit : Commit) → slice_get history (at - 1) ≡ Some commit
      → IsSignatureOf (addresses commit.writes) (take shape.sig_words (slice_set c.loaded j word)))
  Told _ word = Unit {0}
