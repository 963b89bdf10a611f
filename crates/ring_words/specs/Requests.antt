-- A request of a pass, from its opening to its answer.
use Rattle.std.specs.Prelude.{◌≡◌, ◌≢◌, ℕ, ◌+◌, ◌<◌, ◌≤◌, List}
use Rattle.atomic_table.specs.Seated.{TableId}
use Rattle.tx_model.specs.Calls.{IsLater}
use Rattle.ring_core.specs.declared.action.Progress.{Progress}
use Rattle.ring_core.specs.declared.action.Progress.TheVariants.{Going}
use Rattle.ring_core.specs.declared.stage.Stage.{Stage}
use Rattle.ring_core.specs.declared.stage.Stage.TheVariants.{BeginIndex, BeginTag, ReadHeap, Check}
use Rattle.ring_core.specs.declared.stage.Purpose.TheVariants.{Read}
use Rattle.ring_core.specs.Machine.{steps_of}
use Rattle.ring_worlds.specs.declared.process.Process.{Process}
use Rattle.ring_words.specs.declared.table.About.{About}
use Rattle.ring_words.specs.declared.pass.RingPass.{RingPass}
use Rattle.ring_words.specs.Pass.{process_now, view_of, steps_made, IsSeated, Stepped}

-- what an open request is for
pub data Asked : Type 0 where
  beginning : Asked
  reading : ℕ → Asked
  other : Asked

abbrev pub asked_at : Stage → Asked
asked_at BeginIndex = beginning
asked_at (BeginTag top at) = beginning
asked_at (ReadHeap addr) = reading addr
asked_at (Check (Read addr value) inner) = reading addr
asked_at _ = other

-- a beginning or a read
abbrev pub IsShort : Asked → Type 0
IsShort beginning = Unit {0}
IsShort (reading addr) = Unit {0}
IsShort other = ⊥

-- the same request goes on
pub record IsAsking (p q : Process) : Type 0 where
  pub asked : asked_at q.caller.stage ≡ asked_at p.caller.stage
  pub state : q.caller.state ≡ p.caller.state
  pub start : q.caller.start ≡ p.caller.start
  pub writes : q.caller.writes ≡ p.caller.writes
  pub front : q.front ≡ p.front
  pub reads : q.reads ≡ p.reads
  pub sealed : q.sealed ≡ p.sealed
  pub published : q.published ≡ p.published

-- the pass has what it had, and each step left it fewer
pub record KeptOn {S : Type 0} (old new : RingPass S) : Type 0 where
  pub later : IsLater (view_of old) (view_of new)
  pub asking : IsAsking (process_now old) (process_now new)
  pub seals : new.seals ≡ old.seals
  pub steps : steps_made new + steps_of new.local ≤ steps_made old + steps_of old.local

-- the request was answered by the last of its steps
pub record Answered {S : Type 0} (good : S → List ℕ → List ℕ → Type 0) (budget : S → List ℕ → ℕ) (about : About S) (table : TableId)
    (old new : RingPass S) (progress : Progress) : Type 0 where
  pub last : RingPass S
  pub seated : IsSeated good budget about table last
  pub kept : KeptOn old last
  pub step : Stepped good budget last new progress
  pub fewer : steps_of new.local < steps_of last.local
  pub over : progress ≢ Going
