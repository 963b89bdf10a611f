-- Laws of schedules, and a worked example.
use Rattle.std.specs.Prelude.{◌≡◌, ℕ, List, [], ◌∷◌, Option, Some, None, replicate}
use Rattle.ring_worlds.specs.World.{World}
use Rattle.ring_worlds.specs.Runs.{Runs, opening_world}
use Rattle.ring_worlds.specs.Examples.{four}
use Rattle.ring_runs.specs.declared.event.Act.{Act}
use Rattle.ring_runs.specs.declared.event.Act.TheVariants.{Begin, Run, Done}
use Rattle.ring_runs.specs.declared.event.Event.{Event}
use Rattle.ring_runs.specs.declared.trace.Happened.{Happened}
use Rattle.ring_runs.specs.declared.trace.Happened.TheVariants as happened
use Rattle.ring_runs.specs.declared.trace.TraceLine.{TraceLine}
use Rattle.ring_runs.specs.Trace.{Leads}

-- events lead to one world and print one list of lines
abbrev pub TracesAgree : Type 0
TracesAgree =
    (first w other : World) (events : List Event) (prior before : Option Event) (lines told : List TraceLine) → Leads first events prior w lines
    → Leads first events before other told → (w ≡ other) × (lines ≡ told)

-- they are steps and moves, so that what holds of every run holds behind every schedule
abbrev pub SchedulesRun : Type 0
SchedulesRun = (first w : World) (events : List Event) (prior : Option Event) (lines : List TraceLine) → Leads first events prior w lines → Runs first w

-- ---- an example
-- a ring of four with one caller
abbrev pub lone_world : World
lone_world = opening_world four [] (replicate 64 0) 1

abbrev pub event : Act → ℕ → Event
event act line = record { who = 0; act = act; line = line }

abbrev pub line : Happened → TraceLine
line what = record { who = 0; what = what }

-- it begins and is done: the lines 2 and 3 of a script
abbrev pub three_events : List Event
three_events = event Begin 2 ∷ event Run 2 ∷ event Done 3 ∷ []

pub record DoneExample : Type 0 where
  pub prior : Option Event
  pub world : World
  pub leads : Leads lone_world three_events prior world (line (happened.Start 0) ∷ line (happened.Done 0) ∷ [])
