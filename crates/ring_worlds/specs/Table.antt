-- The form of a rule over a table of words whose seats know what callers know: there is a sound world that has these words and these callers.
use Rattle.std.specs.Prelude.{◌≡◌, ℕ, ◌++◌, List, ◌∷◌, Option, Some, None, length, map, slice_index, slice_set}
use mathlib.Core.Option.{some}
use lib.ListN.{get_elem?}
use Rattle.tx_model.specs.declared.gate.Region.{Region}
use Rattle.tx_model.specs.declared.history.Commit.{Commit}
use Rattle.tx_model.specs.History.{IsBeginning}
use Rattle.ring_core.specs.declared.shape.Shape.{Shape}
use Rattle.ring_core.specs.declared.action.Action.TheVariants.{LoadIndex}
use Rattle.ring_core.specs.Request.{next_action}
use Rattle.ring_core.specs.Words.{CanAbsorb}
use Rattle.ring_worlds.specs.declared.process.Process.{Process}
use Rattle.ring_worlds.specs.World.{World, moved_on, with_process}
use Rattle.ring_worlds.specs.Sound.{Sound}
use Rattle.ring_worlds.specs.Runs.{resting}

-- what the seat of a caller knows: the caller as of its last step, and a beginning of the history
pub record Knowledge : Type 0 where
  pub process : Process
  pub history : List Commit

-- the index, the tags, the signature words and the memory, one after the other
abbrev pub words_of : World → List ℕ
words_of w = w.index ∷ (w.tags ++ (w.sigs ++ w.heap))

-- a seat that is spent stands for a caller that has done nothing
abbrev pub process_of : Shape → Option Knowledge → Process
process_of shape None = resting shape
process_of shape (Some known) = known.process

pub record IsTable (shape : Shape) (regions : List Region) (opening : List ℕ) (words : List ℕ) (seats : List (Option Knowledge)) : Type 0 where
  pub world : World
  pub made : (world.shape ≡ shape) × (world.regions ≡ regions) × (world.opening ≡ opening)
  pub sound : Sound world
  pub stands : words ≡ words_of world
  pub callers : map (process_of shape) seats ≡ world.processes
  pub known : (seat : ℕ) (k : Knowledge) → get_elem? seats seat ≡ some (Some k) → IsBeginning k.history world.history

-- what the caller did since its last step, with no step of its own, keeps every world sound
abbrev pub MayBecome : Process → Process → Type 0
MayBecome p q = (w : World) (who : ℕ) → Sound w → get_elem? w.processes who ≡ some p → Sound (with_process w who q)

-- a seat that loads the index: the word may be taken in, the rule holds again, and the seat knows the whole history, which is as long as the word says
pub record HasLoadedIndex (shape : Shape) (regions : List Region) (opening : List ℕ) (words : List ℕ) (seats : List (Option Knowledge)) (seat : ℕ)
    (before : Knowledge) (moved : Process) : Type 0 where
  pub history : List Commit
  pub longer : IsBeginning before.history history
  pub long : length history ≡ slice_index words 0
  pub can : CanAbsorb shape moved.caller (slice_index words 0)
  pub rule : IsTable shape regions opening words (slice_set seats seat
      (Some (record { process = moved_on shape opening history moved (slice_index words 0); history = history })))

abbrev pub IndexLoadOnTable : Type 0
IndexLoadOnTable =
    (shape : Shape) (regions : List Region) (opening words : List ℕ) (seats : List (Option Knowledge)) (seat : ℕ) (before : Knowledge) (moved : Process)
    → IsTable shape regions opening words seats → get_elem? seats seat ≡ some (Some before)
    → MayBecome before.process moved → next_action shape moved.caller ≡ LoadIndex → HasLoadedIndex shape regions opening words seats seat before moved
