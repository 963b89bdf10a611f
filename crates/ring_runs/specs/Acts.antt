-- What one event answers, and one step of it.
use Rattle.std.specs.Prelude.{◌≡◌, ℕ, Option, Result, Ok, Err}
use Rattle.tx_model.specs.declared.pass.PassState.{PassState}
use Rattle.ring_worlds.specs.declared.process.Process.{Process}
use Rattle.ring_worlds.specs.World.{World}
use Rattle.ring_worlds.specs.Moves.{IsClosed}
use Rattle.ring_worlds.specs.Calls.{process_at}
use Rattle.ring_worlds.specs.Laws.{IsShorter}
use Rattle.ring_runs.specs.declared.event.Act.{Act}
use Rattle.ring_runs.specs.declared.event.Event.{Event}
use Rattle.ring_runs.specs.declared.acts.Undone.{Undone}
use Rattle.ring_runs.specs.declared.acts.Undone.TheVariants.{NotNow, Memory}
use Rattle.ring_runs.specs.declared.trace.Happened.{Happened}
use Rattle.ring_runs.specs.declared.trace.ReplayError.{ReplayError}
use Rattle.ring_runs.specs.declared.trace.ReplayError.TheVariants as refusal
use Rattle.ring_runs.specs.Trace.{Tells, Does, Happens, line_of, Refuses}

-- the caller is in this state, with no request open
abbrev pub IsAt : PassState → Process → Type 0
IsAt state p = (p.caller.state ≡ state) × IsClosed p

-- the caller does this, or may not do it
abbrev pub Acts : World → ℕ → Act → World → Result (Option Happened) Undone → Type 0
Acts w who act next (Ok what) = Does w who (process_at w who) next what act
Acts w who act next (Err NotNow) = (other : World) (what : Option Happened) → Does w who (process_at w who) other what act → ⊥
Acts w who act next (Err Memory) = Unit {0}

-- the caller has made a step, which tells this, and its request has fewer of them left
pub record HasTold (w : World) (who : ℕ) (what : Option Happened) (next : World) : Type 0 where
  pub tells : Tells w who next what
  pub shorter : IsShorter w next who (process_at w who)

-- the caller has made a step, or has none to make
abbrev pub StepsOnce : World → ℕ → World → Result (Option Happened) Undone → Type 0
StepsOnce w who next (Ok what) = HasTold w who what next
StepsOnce w who next (Err NotNow) = (other : World) (what : Option Happened) → Tells w who other what → ⊥
StepsOnce w who next (Err Memory) = Unit {0}

-- an event leads on, or is refused
abbrev pub Answers : Option Event → World → Event → ℕ → World → Result (Option Happened) ReplayError → Type 0
Answers prior w e index next (Ok what) = Happens prior w e next (line_of e.who what)
Answers prior w e index next (Err refusal.Memory) = Unit {0}
Answers prior w e index next (Err error) = Refuses prior w e index error
