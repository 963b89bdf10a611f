-- What the answer of a request says.
use Rattle.std.specs.Prelude.{◌≡◌, ◌≢◌, ℕ, ◌+◌, ◌*◌, ◌-◌, ◌<◌, ◌≤◌, ◌++◌, List, length}
use Rattle.tx_model.specs.declared.gate.Region.{Region}
use Rattle.tx_model.specs.declared.pass.PassState.TheVariants.{Idle}
use Rattle.tx_model.specs.declared.pass.Stop.TheVariants.{Met, Overrun}
use Rattle.tx_model.specs.Opacity.{ReadFromState, ShowsConflict, ShowsOverrun}
use Rattle.ring_core.specs.declared.shape.Shape.{Shape}
use Rattle.ring_core.specs.declared.action.Progress.TheVariants.{Started, Value, Stopped, Later, Worn}
use Rattle.ring_core.specs.declared.action.Later.TheVariants.{Lost, Unpublished, SlotBusy, Order}
use Rattle.ring_core.specs.declared.stage.Stage.{Stage}
use Rattle.ring_core.specs.declared.stage.Stage.TheVariants.{Check, StampSlot, StampSwap}
use Rattle.ring_core.specs.declared.stage.CheckStage.TheVariants.{First}
use Rattle.ring_core.specs.declared.action.Progress.{Progress}
use Rattle.ring_worlds.specs.declared.process.Process.{Process}
use Rattle.ring_worlds.specs.World.{Board, tag_of, read_of, asked_first, process_after}
use Rattle.ring_worlds.specs.Reader.{IsReader}
use Rattle.ring_core.specs.Outcomes.{Outcome}
use Rattle.ring_core.specs.Tags.{writing, complete}

-- the index that a stamp has loaded
abbrev pub IsTopOf : Stage → ℕ → Type 0
IsTopOf (Check purpose (First walk)) index = walk.top ≡ index
IsTopOf (StampSlot top) index = top ≡ index
IsTopOf (StampSwap top) index = top ≡ index
IsTopOf _ index = ⊥

-- the index that it finds then is greater
abbrev pub IsPastTop : Stage → ℕ → Type 0
IsPastTop (StampSwap top) index = top < index
IsPastTop _ index = ⊥

module _ (shape : Shape) (opening : List ℕ) (regions : List Region) where
  -- `start` is that of the caller after the answer
  abbrev pub Tells : Board → Process → Stage → ℕ → Progress → Type 0
  Tells b p stage start (Started first) = (p.front ≤ first) × (start ≡ first)
  Tells b p stage start (Value value) = ReadFromState opening b.history (p.reads ++ read_of stage) start
  Tells b p stage start (Stopped (Met entry)) = ShowsConflict (64 * shape.sig_words) b.history p.caller.start (asked_first stage p.reads) entry
  Tells b p stage start (Stopped (Overrun entry seen)) = ShowsOverrun shape.ring b.history p.caller.start entry seen
  Tells b p stage start (Later (Lost index)) = (index ≡ length b.history) × IsPastTop stage index
  Tells b p stage start (Later (Unpublished entry tag)) = (tag ≡ tag_of shape b entry) × (tag < writing entry) × IsTopOf stage entry
  Tells b p stage start (Later (SlotBusy entry tag)) = (tag ≡ tag_of shape b entry) × (tag < complete entry) × IsTopOf stage (entry + shape.ring - 1)
  Tells b p stage start (Later (Order entry tag)) = (tag ≡ tag_of shape b entry) × (tag < complete entry) × (entry < p.caller.stamp)
  Tells b p stage start (Worn index) = (index ≡ length b.history) × (index ≡ shape.life)
  Tells b p stage start _ = Unit {0}

  -- a step of a request, at this stage, that has this outcome
  pub record Keeps (b : Board) (p : Process) (stage : Stage) (o : Outcome) : Type 0 where
    pub reader : IsReader shape opening regions b (process_after opening b.history p stage o)
    pub later : p.caller.state ≢ Idle → p.caller.start ≤ o.caller.start
    pub tells : Tells b p stage o.caller.start o.progress
