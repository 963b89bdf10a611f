-- Runs: any steps, moves and owners' stores of any callers, one after the other, from an opening world.
use Rattle.std.specs.Prelude.{◌≡◌, ℕ, ◌*◌, List, [], length, replicate}
use Rattle.tx_model.specs.declared.gate.Region.{Region}
use Rattle.tx_model.specs.Made.{AreWellFormed}
use Rattle.ring_core.specs.declared.shape.Shape.{Shape}
use Rattle.ring_core.specs.declared.kind.Kind.{Kind}
use Rattle.ring_core.specs.Shape.{IsShape}
use Rattle.ring_core.specs.Outcomes.{opening}
use Rattle.ring_worlds.specs.declared.process.Process.{Process}
use Rattle.ring_worlds.specs.World.{World}
use Rattle.ring_worlds.specs.Steps.{Steps}
use Rattle.ring_worlds.specs.Moves.{Moves, OwnerStores}

-- a caller that has done nothing yet
abbrev pub resting : Shape → Process
resting shape = record { caller = opening shape; front = 0; reads = []; sealed = []; published = []; owned = [] }

-- the world before the first step, with so many callers
abbrev pub opening_world : Shape → List Region → List ℕ → ℕ → World
opening_world shape regions words callers =
    record {
      shape = shape;
      regions = regions;
      opening = words;
      index = 0;
      tags = replicate shape.ring 0;
      sigs = replicate (shape.ring * shape.sig_words) 0;
      heap = words;
      history = [];
      processes = replicate callers (resting shape);
    }

-- what a world may be opened with
pub record MayOpen (shape : Shape) (regions : List Region) (words : List ℕ) : Type 0 where
  pub limits : IsShape shape
  pub room : length words ≡ shape.heap
  pub well_formed : AreWellFormed words regions

-- one event: a step, a move without a step, or an owner's store
pub data Happens (w next : World) : Type 0 where
  step : (who : ℕ) (kind : Kind) → Steps w who kind next → Happens w next
  move : (who : ℕ) → Moves w who next → Happens w next
  owner_store : (who : ℕ) → OwnerStores w who next → Happens w next

-- any list of events, each allowed where it is made
pub data Runs (w : World) : World → Type 0 where
  start : Runs w w
  more : {mid next : World} → Runs w mid → Happens mid next → Runs w next
