-- Events that lead on, one after the other, and the first that is refused.
use Rattle.std.proofs.Common.{ℕ, ◌+◌, ◌<◌, ◌++◌, List, Option, Some, Err, length, take, get_or, refl}
use Rattle.std.proofs.lemmas.List.{take_more}
use Rattle.std.proofs.lemmas.Option.{slice_get-get_or}
use Rattle.ring_worlds.specs.World.{World}
use Rattle.ring_worlds.specs.Calls.{process_at}
use Rattle.ring_state.specs.declared.setup.Setup.{Setup}
use Rattle.ring_runs.specs.declared.event.Event.{Event}
use Rattle.ring_runs.specs.declared.trace.Happened.{Happened}
use Rattle.ring_runs.specs.declared.trace.TraceLine.{TraceLine}
use Rattle.ring_runs.specs.declared.trace.ReplayError.{ReplayError}
use Rattle.ring_runs.specs.declared.trace.ReplayError.TheVariants as refusal
use Rattle.ring_runs.specs.Trace.{Does, IsSkipped, Leads, Happens, line_of, first_world, Refuses, IsRefused, Replays}
use Rattle.ring_runs.specs.Trace.Happens.{does, skips}
use Rattle.ring_runs.specs.Trace.Leads.{more}
use Rattle.ring_runs.specs.Acts.{Answers}

-- an event that isn't skipped, and that the caller may not do, is refused
pub not_now : (prior : Option Event) (w : World) (e : Event) → (IsSkipped prior w e → ⊥)
    → ((other : World) (what : Option Happened) → Does w e.who (process_at w e.who) other what e.act → ⊥) → (next : World) (lines : List TraceLine)
    → Happens prior w e next lines → ⊥
not_now prior w e not_skipped not_done next lines (does what here range done line) = not_done next what done
not_now prior w e not_skipped not_done next lines (skips here skipped same line) = not_skipped skipped

module _ (setup : Setup) (events : List Event) (at : ℕ) (prior : Option Event) (w next : World) (lines : List TraceLine) (d : Event)
    (below : at < length events) (so_far : Leads (first_world setup) (take at events) prior w lines) where
  -- the event at this index
  abbrev pub here : Event
  here = get_or events at d

  pub led : (what : Option Happened) → Happens prior w here next (line_of here.who what)
      → Leads (first_world setup) (take (at + 1) events) (Some here) next (lines ++ line_of here.who what)
  led what happens = more (take at events) prior w here lines (line_of here.who what) so_far happens (take_more events at d below) refl refl

  refused : (error : ReplayError) → Refuses prior w here at error → IsRefused setup events error
  refused error refuses = record {
    index = at;
    prior = prior;
    world = w;
    lines = lines;
    leads = so_far;
    event = here;
    there = slice_get-get_or events at d below;
    refuses = refuses;
  }

  pub fails : (error : ReplayError) → Answers prior w here at next (Err error) → Replays setup events (Err error)
  fails (refusal.NoCaller index) refuses = refused (refusal.NoCaller index) refuses
  fails (refusal.OutOfRange index) refuses = refused (refusal.OutOfRange index) refuses
  fails (refusal.NotNow index) refuses = refused (refusal.NotNow index) refuses
  fails refusal.Memory refuses = tt
