-- What a caller may do without a step: open a request, write, seal and publish regions, and end its attempt; and what the owner of a region stores in it.
-- The region rule is a condition of reads, writes, seals and publications.
use Rattle.std.specs.Prelude.{◌≡◌, ◌≢◌, ℕ, ◌-◌, ◌<◌, ◌++◌, List, [], ◌∷◌, length, max, false, Some, slice_get, slice_set}
use mathlib.Core.Option.{some}
use lib.ListN.{get_elem?}
use Rattle.tx_model.specs.declared.gate.Region.{Region}
use Rattle.tx_model.specs.declared.gate.TheConstants.{GATE_SEALED, GATE_PACKED}
use Rattle.tx_model.specs.declared.pass.PassState.TheVariants as state
use Rattle.tx_model.specs.declared.view.Owned.{Owned}
use Rattle.tx_model.specs.Words.{HasAddress}
use Rattle.tx_model.specs.Made.{IsIn}
use Rattle.tx_model.specs.Attempt.{MayRead, MayWrite}
use Rattle.tx_model.specs.Rule.{MaySeal, MayPublish}
use Rattle.tx_model.specs.Pass.{OwnsRegion}
use Rattle.ring_core.specs.declared.shape.Shape.{Shape}
use Rattle.ring_core.specs.declared.stage.Stage.{Stage}
use Rattle.ring_core.specs.declared.stage.Stage.TheVariants.{BeginIndex, ReadHeap, Check}
use Rattle.ring_core.specs.declared.stage.Purpose.TheVariants.{Stamp}
use Rattle.ring_core.specs.declared.stage.CheckStage.TheVariants.{Index}
use Rattle.ring_core.specs.Request.{is_open}
use Rattle.ring_core.specs.Outcomes.{idle}
use Rattle.ring_core.specs.Machine.{written, resumed, IsFull}
use Rattle.ring_worlds.specs.declared.process.Process.{Process}
use Rattle.ring_worlds.specs.World.{World, attempt_of, with_process}

-- no request is open
abbrev pub IsClosed : Process → Type 0
IsClosed p = is_open p.caller.stage ≡ false

-- an attempt with no request open
pub record IsBetween (p : Process) : Type 0 where
  pub active : p.caller.state ≡ state.Active
  pub closed : IsClosed p

abbrev pub at_stage : Process → Stage → Process
at_stage p stage = record p { caller = record p.caller { stage = stage } }

abbrev pub with_written : Process → ℕ → ℕ → Process
with_written p addr value = record p { caller = written p.caller addr value }

-- the attempt seals this region, by a write to its gate
abbrev pub with_seal : Process → Region → Process
with_seal p region = record p { caller = written p.caller region.gate GATE_SEALED; sealed = p.sealed ++ region ∷ [] }

-- it publishes this region
abbrev pub with_publish : Process → Region → Process
with_publish p region = record p { caller = written p.caller region.gate GATE_PACKED; published = p.published ++ region ∷ [] }

-- the attempt is over, and what it read from is complete
abbrev pub ended : Shape → Process → Process
ended shape p = record { caller = idle shape p.caller; front = max p.front p.caller.start; reads = []; sealed = []; published = []; owned = p.owned }

module _ (shape : Shape) (regions : List Region) where
  pub data IsMove (p q : Process) : Type 0 where
    begins : p.caller.state ≡ state.Idle → IsClosed p → q ≡ at_stage p BeginIndex → IsMove p q
    -- of a word that the attempt has not written
    reads : (addr : ℕ) → IsBetween p → addr < shape.heap → (HasAddress p.caller.writes addr → ⊥) → MayRead regions (attempt_of p) addr
        → q ≡ at_stage p (ReadHeap addr) → IsMove p q
    -- of a word that it has written: the last value is the answer, and nothing changes
    rereads : (addr : ℕ) → IsBetween p → HasAddress p.caller.writes addr → MayRead regions (attempt_of p) addr → q ≡ p → IsMove p q
    writes : (addr value : ℕ) → IsBetween p → addr < shape.heap → MayWrite regions (attempt_of p) addr value → (IsFull p.caller addr → ⊥)
        → q ≡ with_written p addr value → IsMove p q
    seals : (region : Region) → IsBetween p → MaySeal regions (attempt_of p) region → (IsFull p.caller region.gate → ⊥) → q ≡ with_seal p region → IsMove p q
    publishes : (region : Region) → IsBetween p → MayPublish regions (attempt_of p) region → OwnsRegion p.owned region
        → (IsFull p.caller region.gate → ⊥) → q ≡ with_publish p region → IsMove p q
    stamps : IsBetween p → 0 < length p.caller.writes → q ≡ at_stage p (Check Stamp Index) → IsMove p q
    turns : p.caller.state ≡ state.Stamped → IsClosed p → q ≡ at_stage p (resumed p.caller.stage) → IsMove p q
    -- by giving up, or where it wrote nothing
    ends : IsBetween p → q ≡ ended shape p → IsMove p q

-- the caller `who` makes a move
pub record Moves (w : World) (who : ℕ) (next : World) : Type 0 where
  pub process : Process
  pub here : get_elem? w.processes who ≡ some process
  pub moved : Process
  pub moves : IsMove w.shape w.regions process moved
  pub after : next ≡ with_process w who moved

-- ---- owned regions
-- the world after its owner has stored a word of a region
abbrev pub with_owned : World → ℕ → Process → ℕ → Owned → ℕ → ℕ → World
with_owned w who p index o addr value =
    record w {
      heap = slice_set w.heap addr value;
      processes = slice_set w.processes who (record p { owned = slice_set p.owned index (record o { now = slice_set o.now (addr - o.region.base) value }) });
    }

-- the caller `who` stores a word of a region that it owns, while no commit of its is being written back
pub record OwnerStores (w : World) (who : ℕ) (next : World) : Type 0 where
  pub process : Process
  pub here : get_elem? w.processes who ≡ some process
  pub free : process.caller.state ≢ state.Stamped
  pub index : ℕ
  pub owned : Owned
  pub owns : slice_get process.owned index ≡ Some owned
  pub addr : ℕ
  pub inside : IsIn addr owned.region
  pub value : ℕ
  pub after : next ≡ with_owned w who process index owned addr value
