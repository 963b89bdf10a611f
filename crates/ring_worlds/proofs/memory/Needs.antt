-- What the part on memory needs of the other parts, and what its lemmas say.
use Rattle.std.specs.Prelude.{◌≡◌, ◌≢◌, ◌⊎◌, ℕ, ◌+◌, ◌-◌, ◌*◌, ◌%◌, ◌<◌, ◌≤◌, List, [], ◌∷◌, ◌++◌, length, slice_index, slice_set, Some, slice_get, Contains, IsTrue}
use mathlib.Core.Option.{some}
use lib.ListN.{get_elem?}
use Rattle.tx_model.specs.declared.gate.Region.{Region}
use Rattle.tx_model.specs.declared.view.Owned.{Owned}
use Rattle.tx_model.specs.declared.history.Commit.{Commit}
use Rattle.tx_model.specs.declared.pass.PassState.TheVariants.{Stamped}
use Rattle.tx_model.specs.Words.{addresses, word_at, AreApart}
use Rattle.tx_model.specs.Made.{IsIn}
use Rattle.tx_model.specs.Attempt.{has_region}
use Rattle.ring_sig.specs.Signature.{IsSignatureOf}
use Rattle.ring_core.specs.declared.shape.Shape.{Shape}
use Rattle.ring_core.specs.declared.caller.Caller.{Caller}
use Rattle.ring_core.specs.declared.stage.Stage.TheVariants.{Turn, StampSwap}
use Rattle.ring_core.specs.declared.stage.TurnStage.{TurnStage}
use Rattle.ring_core.specs.declared.stage.TurnStage.TheVariants.{Heap, Complete}
use Rattle.ring_core.specs.Shape.{IsShape}
use Rattle.ring_core.specs.Sound as core
use Rattle.ring_core.specs.Outcomes.{outcome_at}
use Rattle.ring_worlds.specs.declared.process.Process.{Process}
use Rattle.ring_worlds.specs.World.{World, commit_of, moved_on, process_after}
use Rattle.ring_worlds.specs.Stored.{words_left, stored_at}
use Rattle.ring_worlds.specs.Memory.{IsOwned, IsMemory, IsFrom, Told}
use Rattle.ring_worlds.specs.Sound.{Belongs, HaveOwnStamps}

abbrev pub process_with : Process → Caller → Process
process_with p caller = record p { caller = caller }

-- a stamped caller's commit is in the history, after the complete ones
pub record HasCommit (complete : ℕ) (history : List Commit) (p : Process) : Type 0 where
  pub later : complete < p.caller.stamp
  pub there : slice_get history (p.caller.stamp - 1) ≡ Some (commit_of p)
  pub last : p.caller.stage ≡ Turn Complete → p.caller.stamp ≡ complete + 1

pub record Beside (shape : Shape) (complete : ℕ) (history : List Commit) (p : Process) : Type 0 where
  pub machine : core.IsSound shape p.caller
  pub behind : p.caller.start ≤ complete
  pub signed : IsSignatureOf (addresses p.caller.writes) p.caller.write_sig
  pub own : p.caller.state ≡ Stamped → HasCommit complete history p

pub record Needs (shape : Shape) (complete : ℕ) (w : World) : Type 0 where
  pub limits : IsShape shape
  pub indexed : w.index ≡ length w.history
  pub reached : complete ≤ length w.history
  pub once : (k : ℕ) (commit : Commit) → slice_get w.history k ≡ Some commit → AreApart (words_left commit)
  pub each : (i : ℕ) (p : Process) → get_elem? w.processes i ≡ some p → Beside shape complete w.history p
  pub apart : HaveOwnStamps w.processes
  -- what a caller owns or seals lies in the memory
  pub lies : (i : ℕ) (p : Process) (o : Owned) → get_elem? w.processes i ≡ some p → Contains p.owned o → o.region.base + o.region.len ≤ length w.heap
  pub sealed_lies : (i : ℕ) (p : Process) (region : Region) → get_elem? w.processes i ≡ some p → Contains p.sealed region
      → region.base + region.len ≤ length w.heap
  pub known : (i : ℕ) (p : Process) (o : Owned) → get_elem? w.processes i ≡ some p → Contains p.owned o → Contains w.regions o.region
  pub sealed_known : (i : ℕ) (p : Process) (region : Region) → get_elem? w.processes i ≡ some p → Contains p.sealed region → Contains w.regions region
  -- after a commit that seals or publishes a region no commit writes in it
  pub closed : (i k : ℕ) (one other : Commit) (region : Region) (j : ℕ) → i < k → slice_get w.history i ≡ Some one
      → slice_get w.history k ≡ Some other → Contains w.regions region → Contains one.sealed region ⊎ IsTrue (has_region one.published region)
      → j < length other.writes → ¬ IsIn (word_at other.writes j).addr region
  -- no word is owned twice
  pub alone : (i j : ℕ) (p q : Process) (k l : ℕ) (o other : Owned) (addr : ℕ) → get_elem? w.processes i ≡ some p
      → get_elem? w.processes j ≡ some q → slice_get p.owned k ≡ Some o → slice_get q.owned l ≡ Some other → IsIn addr o.region
      → IsIn addr other.region → (i ≡ j) × (k ≡ l)
  -- a region that a stamped caller seals is nobody's yet
  pub unowned : (i : ℕ) (p : Process) (region : Region) (addr : ℕ) → get_elem? w.processes i ≡ some p → p.caller.state ≡ Stamped
      → p.caller.stamp ≡ complete + 1 → Contains p.sealed region → IsIn addr region → ¬ IsOwned w.processes addr
  -- the words of the memory are as many as at the opening
  pub sized : length w.heap ≡ length w.opening
  -- each later entry is a stamped caller's, and its tag is `writing` once it has stored a word
  pub belongs : (k : ℕ) → complete ≤ k → k < length w.history → Belongs w.processes k
  pub finished : (entry : ℕ) → 1 ≤ entry → entry ≤ complete → 4 * entry + 3 ≤ slice_index w.tags (entry % shape.ring)
  pub begun : (i : ℕ) (p : Process) → get_elem? w.processes i ≡ some p → p.caller.state ≡ Stamped → 0 < stored_at p.caller p.caller.stage
      → slice_index w.tags (p.caller.stamp % shape.ring) ≡ 4 * p.caller.stamp + 2

-- ---- the worlds that the steps lead to
-- the world after a caller stored its word `at`
abbrev pub with_word : Shape → World → ℕ → Process → ℕ → World
with_word shape w who p at =
    record w {
      heap = slice_set w.heap (word_at p.caller.writes at).addr (word_at p.caller.writes at).value;
      processes = slice_set w.processes who (moved_on shape w.opening w.history p 0);
    }

-- a caller whose commit is complete
abbrev pub completed : Shape → World → Process → Process
completed shape w p = process_after w.opening w.history p (Turn Complete) (outcome_at shape p.caller (Turn Complete) 0)

-- ---- what is kept
-- a store of a word of the heap
abbrev pub HeapStored : Type 0
HeapStored =
    (shape : Shape) (w : World) (complete : ℕ) (ring : Needs shape complete w) → IsMemory shape complete w → (who : ℕ) (p : Process) (at : ℕ)
    → get_elem? w.processes who ≡ some p → p.caller.stage ≡ Turn (Heap at)
    → IsMemory shape complete (with_word shape w who p at)

-- every stage of a turn but the stores of the heap and the last one
abbrev pub Stores : TurnStage → Type 0
Stores (Heap at) = ⊥
Stores Complete = ⊥
Stores _ = Unit {0}

-- the other steps of a turn, whatever tag or word of a signature they store
abbrev pub TurnKeeps : Type 0
TurnKeeps =
    (shape : Shape) (w : World) (complete : ℕ) (ring : Needs shape complete w) → IsMemory shape complete w
    → (who : ℕ) (p : Process) (stage : TurnStage) (word : ℕ) (tags sigs : List ℕ) → get_elem? w.processes who ≡ some p → p.caller.stage ≡ Turn stage
    → Stores stage → Told shape complete w.history p.caller stage word
    → IsMemory shape complete (record w { tags = tags; sigs = sigs; processes = slice_set w.processes who (moved_on shape w.opening w.history p word) })

-- the last store of a turn: one more entry is complete
abbrev pub Completes : Type 0
Completes =
    (shape : Shape) (w : World) (complete : ℕ) (ring : Needs shape complete w) → IsMemory shape complete w → (who : ℕ) (p : Process) (tags : List ℕ)
    → get_elem? w.processes who ≡ some p → p.caller.stage ≡ Turn Complete
    → IsMemory shape p.caller.stamp (record w { tags = tags; processes = slice_set w.processes who (moved_on shape w.opening w.history p 0) })

-- an exchange of the index that found what it expected
abbrev pub Swaps : Type 0
Swaps =
    (shape : Shape) (w : World) (complete : ℕ) (ring : Needs shape complete w) → IsMemory shape complete w → (who : ℕ) (p : Process) (top : ℕ)
    → get_elem? w.processes who ≡ some p → p.caller.stage ≡ StampSwap top → w.index ≡ top
    → ((j : ℕ) → j < length p.caller.writes → ¬ IsOwned w.processes (word_at p.caller.writes j).addr)
    → IsMemory shape complete (record w {
      index = w.index + 1;
      history = w.history
          ++ commit_of p ∷ [];
      processes = slice_set w.processes who (moved_on shape w.opening w.history p w.index);
    })

-- any step or move of a caller that isn't stamped after it
abbrev pub OthersKeep : Type 0
OthersKeep =
    (shape : Shape) (w : World) (complete : ℕ) → IsMemory shape complete w → (who : ℕ) (p q : Process) → get_elem? w.processes who ≡ some p
    → q.owned ≡ p.owned → core.IsSound shape q.caller → q.caller.state ≢ Stamped
    → IsMemory shape complete (record w { processes = slice_set w.processes who q })

-- a word of the heap is that of a state, from any number of complete entries on
abbrev pub WordIsFrom : Type 0
WordIsFrom =
    (shape : Shape) (w : World) (complete : ℕ) (ring : Needs shape complete w) → IsMemory shape complete w → (start addr value : ℕ) → start ≤ complete
    → addr < length w.opening → ¬ IsOwned w.processes addr → slice_get w.heap addr ≡ Some value
    → IsFrom shape w start addr value
