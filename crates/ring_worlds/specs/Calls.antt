-- What the calls of a world ask for and leave.
use Rattle.std.specs.Prelude.{◌≡◌, ℕ, true, Some, slice_index_or}
use mathlib.Core.Option.{some}
use lib.ListN.{get_elem?}
use Rattle.ring_core.specs.declared.action.Progress.{Progress}
use Rattle.ring_core.specs.declared.kind.Kind.{Kind}
use Rattle.ring_core.specs.Kinds.{kind_at}
use Rattle.ring_core.specs.Request.{is_open}
use Rattle.ring_worlds.specs.declared.process.Process.{Process}
use Rattle.ring_worlds.specs.World.{World}
use Rattle.ring_worlds.specs.Sound.{Sound}
use Rattle.ring_worlds.specs.Runs.{resting}
use Rattle.ring_worlds.specs.Steps.{Steps, answer_of}
use Rattle.ring_worlds.specs.Learns.{Learns}

-- the caller of this number
abbrev pub process_at : World → ℕ → Process
process_at w who = slice_index_or w.processes who (resting w.shape)

-- the caller has an open request
pub record IsAsking (w : World) (who : ℕ) : Type 0 where
  pub process : Process
  pub here : get_elem? w.processes who ≡ some process
  pub asks : is_open process.caller.stage ≡ true

-- its next step is of this kind
pub record IsNext (w : World) (who : ℕ) (kind : Kind) : Type 0 where
  pub process : Process
  pub here : get_elem? w.processes who ≡ some process
  pub is_kind : kind_at process.caller.stage ≡ Some kind

-- the caller has made its next step, and this is what it answered
pub record HasMade (w : World) (who : ℕ) (progress : Progress) (next : World) : Type 0 where
  pub kind : Kind
  pub step : Steps w who kind next
  pub answer : progress ≡ answer_of w step.process

-- the law of a kind: a sound world is led to a sound one, and the caller learns what the answer says
pub record KeepsAndTells (w : World) (who : ℕ) (kind : Kind) (progress : Progress) (next : World) : Type 0 where
  pub before : Sound w
  pub step : Steps w who kind next
  pub after : Sound next
  pub answer : progress ≡ answer_of w step.process
  pub learns : Learns w next step.process
