-- What the events of a schedule do to a world, and the lines that they print.
use Rattle.std.specs.Prelude.{◌≡◌, ◌⊎◌, ◌++◌, ℕ, ◌+◌, ◌<◌, ◌≤◌, List, [], ◌∷◌, Option, Some, None, Result, Ok, Err, IsSome, length, take, slice_get}
use Rattle.tx_model.specs.declared.pass.PassState.TheVariants.{Idle, Stamped}
use Rattle.tx_model.specs.declared.pass.Stop.TheVariants.{Met, Overrun}
use Rattle.tx_model.specs.Words.{value_of}
use Rattle.tx_model.specs.Attempt.{MayRead, MayWrite}
use Rattle.ring_core.specs.declared.action.Progress.{Progress}
use Rattle.ring_core.specs.declared.action.Progress.TheVariants as answer
use Rattle.ring_core.specs.declared.kind.Kind.{Kind}
use Rattle.ring_core.specs.declared.stage.Stage.TheVariants.{BeginIndex, ReadHeap, Check}
use Rattle.ring_core.specs.declared.stage.Purpose.TheVariants as purpose
use Rattle.ring_core.specs.declared.stage.CheckStage.TheVariants.{Index}
use Rattle.ring_core.specs.Machine.{resumed, IsFull}
use Rattle.ring_worlds.specs.declared.process.Process.{Process}
use Rattle.ring_worlds.specs.World.{World, attempt_of, with_process}
use Rattle.ring_worlds.specs.Steps.{Steps, answer_of}
use Rattle.ring_worlds.specs.Moves.{IsClosed, IsBetween, at_stage, with_written, ended}
use Rattle.ring_worlds.specs.Runs.{opening_world}
use Rattle.ring_runs.specs.declared.event.Act.{Act}
use Rattle.ring_runs.specs.declared.event.Act.TheVariants as act
use Rattle.ring_runs.specs.declared.event.Event.{Event}
use Rattle.ring_runs.specs.declared.trace.Happened.{Happened}
use Rattle.ring_runs.specs.declared.trace.Happened.TheVariants as happened
use Rattle.ring_runs.specs.declared.trace.TraceLine.{TraceLine}
use Rattle.ring_runs.specs.declared.trace.Trace.{Trace}
use Rattle.ring_runs.specs.declared.trace.ReplayError.{ReplayError}
use Rattle.ring_runs.specs.declared.trace.ReplayError.TheVariants as refusal
use Rattle.ring_state.specs.declared.setup.Setup.{Setup}
use Rattle.ring_state.specs.Plain.{read_address}
use Rattle.ring_worlds.specs.Calls.{process_at}

-- ---- what is told of a step
-- the value of a read that asked for this address
abbrev pub value_told : Option ℕ → ℕ → Option Happened
value_told (Some addr) value = Some (happened.Value addr value)
value_told None value = None

-- the answer of a request whose read, if it is one, asked for this address; none while it goes on
abbrev pub told : Option ℕ → Progress → Option Happened
told asked answer.Going = None
told asked (answer.Started start) = Some (happened.Start start)
told asked (answer.Value value) = value_told asked value
told asked (answer.Stopped (Met stamp)) = Some (happened.Met stamp)
told asked (answer.Stopped (Overrun stamp seen)) = Some (happened.Overrun stamp seen)
told asked (answer.Stamped stamp) = Some (happened.Stamped stamp)
told asked (answer.Later later) = Some (happened.Later later)
told asked (answer.Completed stamp) = Some (happened.Completed stamp)
told asked (answer.Worn index) = Some (happened.Worn index)

abbrev pub told_by : World → Process → Option Happened
told_by w p = told (read_address p.caller.stage) (answer_of w p)

-- the caller makes one step of its open request, which tells this
pub record Tells (w : World) (who : ℕ) (next : World) (what : Option Happened) : Type 0 where
  pub kind : Kind
  pub step : Steps w who kind next
  pub told : what ≡ told_by w step.process

-- it makes so many steps, of which only the last may end the request
pub data Makes (w : World) (who : ℕ) : ℕ → World → Option Happened → Type 0 where
  none : {count : ℕ} {next : World} {what : Option Happened} → count ≡ 0 → next ≡ w → what ≡ None → Makes w who count next what
  more : {count : ℕ} {next : World} {what : Option Happened} (before : ℕ) (mid : World) → count ≡ before + 1 → Makes w who before mid None
      → Tells mid who next what → Makes w who count next what

-- ---- one event
-- the word or the region that an event names is there
abbrev pub InRange : World → Act → Type 0
InRange w (act.Read addr) = addr < w.shape.heap
InRange w (act.Write addr value) = addr < w.shape.heap
InRange w (act.Seal region) = region < length w.regions
InRange w (act.Publish region) = region < length w.regions
InRange w (act.Load addr) = addr < w.shape.heap
InRange w (act.Store addr value) = addr < w.shape.heap
InRange w _ = Unit {0}

-- a word that the attempt has written is answered at once, and another one opens a read
abbrev pub Reads : World → ℕ → Process → ℕ → Option ℕ → World → Option Happened → Type 0
Reads w who p addr (Some value) next what = (next ≡ w) × (what ≡ Some (happened.Value addr value))
Reads w who p addr None next what = (next ≡ with_process w who (at_stage p (ReadHeap addr))) × (what ≡ None)

-- a write finds the write set full, or joins it
abbrev pub Writes : World → ℕ → Process → ℕ → ℕ → World → Option Happened → Type 0
Writes w who p addr value next what =
    (IsFull p.caller addr × (next ≡ w) × (what ≡ Some happened.Full))
    ⊎ ((IsFull p.caller addr → ⊥) × (next ≡ with_process w who (with_written p addr value)) × (what ≡ None))

module _ (w : World) (who : ℕ) (p : Process) (next : World) (what : Option Happened) where
  -- the caller is at another stage, and nothing is told
  abbrev pub Opens : Process → Type 0
  Opens q = (next ≡ with_process w who q) × (what ≡ None)

  -- what the caller does, and what is told of it. No caller seals a region yet, and so none owns one
  abbrev pub Does : Act → Type 0
  Does act.Begin = (p.caller.state ≡ Idle) × IsClosed p × Opens (at_stage p BeginIndex)
  Does (act.Read addr) = IsBetween p × MayRead w.regions (attempt_of p) addr × Reads w who p addr (value_of p.caller.writes addr) next what
  Does (act.Write addr value) = IsBetween p × MayWrite w.regions (attempt_of p) addr value × Writes w who p addr value next what
  Does act.Stamp = IsBetween p × (0 < length p.caller.writes) × Opens (at_stage p (Check purpose.Stamp Index))
  Does act.Turn = (p.caller.state ≡ Stamped) × IsClosed p × Opens (at_stage p (resumed p.caller.stage))
  Does act.Done = IsBetween p × (p.caller.writes ≡ []) × (next ≡ with_process w who (ended w.shape p)) × (what ≡ Some (happened.Done p.caller.start))
  Does act.GiveUp = IsBetween p × Opens (ended w.shape p)
  Does (act.Seal region) = ⊥
  Does (act.Publish region) = ⊥
  Does (act.Load addr) = ⊥
  Does (act.Store addr value) = ⊥
  Does (act.Step count) = Makes w who count next what
  Does act.Run = (count : ℕ) × Makes w who count next what × IsSome what

-- the line that tells of it
abbrev pub line_of : ℕ → Option Happened → List TraceLine
line_of who None = []
line_of who (Some what) = record { who = who; what = what } ∷ []

-- a run directly behind a read of the same line that was answered from the write set
pub record IsSkipped (prior : Option Event) (w : World) (e : Event) : Type 0 where
  pub runs : e.act ≡ act.Run
  pub read : Event
  pub before : prior ≡ Some read
  pub addr : ℕ
  pub reads : read.act ≡ act.Read addr
  pub caller : read.who ≡ e.who
  pub line : read.line ≡ e.line
  pub answered : IsClosed (process_at w e.who)

-- the event, behind this one, leads from one world to another and prints these lines
pub data Happens (prior : Option Event) (w : World) (e : Event) (next : World) (lines : List TraceLine) : Type 0 where
  does : (what : Option Happened) → e.who < length w.processes → InRange w e.act → Does w e.who (process_at w e.who) next what e.act
      → lines ≡ line_of e.who what → Happens prior w e next lines
  skips : e.who < length w.processes → IsSkipped prior w e → next ≡ w → lines ≡ [] → Happens prior w e next lines

-- ---- a schedule
-- events in order: the last of them, the world that they lead to, and the lines that they print
pub data Leads (first : World) : List Event → Option Event → World → List TraceLine → Type 0 where
  start : {events : List Event} {prior : Option Event} {w : World} {lines : List TraceLine} → events ≡ [] → prior ≡ None → w ≡ first → lines ≡ []
      → Leads first events prior w lines
  more : {events : List Event} {prior : Option Event} {w : World} {lines : List TraceLine} (earlier : List Event) (before : Option Event) (mid : World)
      (e : Event) (one other : List TraceLine) → Leads first earlier before mid one → Happens before mid e w other → events ≡ earlier ++ e ∷ []
      → prior ≡ Some e → lines ≡ one ++ other → Leads first events prior w lines

abbrev pub first_world : Setup → World
first_world setup = opening_world setup.shape setup.regions setup.first setup.callers

-- the lines that the events print, and the index and the words of the memory behind them
pub record IsTrace (setup : Setup) (events : List Event) (trace : Trace) : Type 0 where
  pub prior : Option Event
  pub world : World
  pub leads : Leads (first_world setup) events prior world trace.lines
  pub index : trace.index ≡ world.index
  pub words : trace.words ≡ world.heap

-- the event is refused, by the first of these tests that it fails
abbrev pub Refuses : Option Event → World → Event → ℕ → ReplayError → Type 0
Refuses prior w e index (refusal.NoCaller at) = (at ≡ index) × (length w.processes ≤ e.who)
Refuses prior w e index (refusal.OutOfRange at) = (at ≡ index) × (e.who < length w.processes) × (InRange w e.act → ⊥)
Refuses prior w e index (refusal.NotNow at) =
    (at ≡ index) × (e.who < length w.processes) × InRange w e.act × ((next : World) (lines : List TraceLine) → Happens prior w e next lines → ⊥)
Refuses prior w e index refusal.Memory = ⊥

-- the first event that is refused, behind those that aren't
pub record IsRefused (setup : Setup) (events : List Event) (error : ReplayError) : Type 0 where
  pub index : ℕ
  pub prior : Option Event
  pub world : World
  pub lines : List TraceLine
  pub leads : Leads (first_world setup) (take index events) prior world lines
  pub event : Event
  pub there : slice_get events index ≡ Some event
  pub refuses : Refuses prior world event index error

-- what replaying answers. Want of memory is free
abbrev pub Replays : Setup → List Event → Result Trace ReplayError → Type 0
Replays setup events (Ok trace) = IsTrace setup events trace
Replays setup events (Err refusal.Memory) = Unit {0}
Replays setup events (Err error) = IsRefused setup events error
