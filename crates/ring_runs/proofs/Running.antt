-- A schedule is a run.
use Rattle.std.proofs.Common.{◌≡◌, ℕ, ◌<◌, List, Option, Some, None, length, refl, sym, subst, inl, inr}
use Rattle.tx_model.specs.Words.{value_of}
use Rattle.tx_model.specs.Attempt.{MayRead}
use Rattle.tx_model.proofs.lemmas.Values.{none_missing}
use Rattle.ring_worlds.specs.declared.process.Process.{Process}
use Rattle.ring_worlds.specs.World.{World, attempt_of, with_process}
use Rattle.ring_worlds.specs.Moves.{IsBetween, IsMove, Moves}
use Rattle.ring_worlds.specs.Moves.IsMove.{begins, reads, writes, stamps, turns, ends}
use Rattle.ring_worlds.specs.Runs.{Runs, resting}
use Rattle.ring_worlds.specs.Runs as runs
use Rattle.ring_worlds.specs.Calls.{process_at}
use Rattle.ring_worlds.proofs.lemmas.Elements.{elem_there}
use Rattle.ring_runs.specs.declared.event.Act.{Act}
use Rattle.ring_runs.specs.declared.event.Act.TheVariants as act
use Rattle.ring_runs.specs.declared.event.Event.{Event}
use Rattle.ring_runs.specs.declared.trace.Happened.{Happened}
use Rattle.ring_runs.specs.declared.trace.TraceLine.{TraceLine}
use Rattle.ring_runs.specs.Trace.{InRange, Makes, Reads, Does, Happens, Leads}
use Rattle.ring_runs.specs.Trace.Makes.{none as no_step, more as one_more}
use Rattle.ring_runs.specs.Trace.Happens.{does, skips}
use Rattle.ring_runs.specs.Trace.Leads.{start, more}
use Rattle.ring_runs.specs.Laws.{SchedulesRun}

module _ (first w : World) (run : Runs first w) (who : ℕ) where
  made : (n : ℕ) (next : World) (x : Option Happened) → Makes w who n next x → Runs first next
  made n next x (no_step zero is told) = subst (Runs first) (sym is) run
  made n next x (one_more before mid count makes last) = runs.more (made before mid None makes) (runs.step who last.kind last.step)

  module _ (here : who < length w.processes) (next : World) where
    moved : (q : Process) → IsMove w.shape w.regions (process_at w who) q → next ≡ with_process w who q → Runs first next
    moved q move is = runs.more run (runs.move who record {
      process = process_at w who;
      here = elem_there w.processes who (resting w.shape) here;
      moved = q;
      moves = move;
      after = is;
    })

    read : (addr : ℕ) (x : Option Happened) → addr < w.shape.heap → IsBetween (process_at w who) → MayRead w.regions (attempt_of (process_at w who)) addr
        → (o : Option ℕ) → value_of (process_at w who).caller.writes addr ≡ o → Reads w who (process_at w who) addr o next x → Runs first next
    read addr x within between may None none d =
        moved _ (reads addr between within (none_missing (process_at w who).caller.writes addr none) may refl) d.0
    read addr x within between may (Some value) known d = subst (Runs first) (sym d.0) run

    acted : (act : Act) (x : Option Happened) → InRange w act → Does w who (process_at w who) next x act → Runs first next
    acted act.Begin x range d = moved _ (begins d.0 d.1 refl) d.2.0
    acted (act.Read addr) x range d = read addr x range d.0 d.1 (value_of (process_at w who).caller.writes addr) refl d.2
    acted (act.Write addr value) x range (between, may, inl full) = subst (Runs first) (sym full.1) run
    acted (act.Write addr value) x range (between, may, inr room) = moved _ (writes addr value between range may room.0 refl) room.1
    acted act.Stamp x range d = moved _ (stamps d.0 d.1 refl) d.2.0
    acted act.Turn x range d = moved _ (turns d.0 d.1 refl) d.2.0
    acted act.Done x range d = moved _ (ends d.0 refl) d.2
    acted act.GiveUp x range d = moved _ (ends d.0 refl) d.1.0
    acted (act.Seal region) x range d = absurd d
    acted (act.Publish region) x range d = absurd d
    acted (act.Load addr) x range d = absurd d
    acted (act.Store addr value) x range d = absurd d
    acted (act.Step count) x range d = made count next x d
    acted act.Run x range (count, makes, some) = made count next x makes

happened : (first w next : World) (prior : Option Event) (e : Event) (lines : List TraceLine) → Runs first w → Happens prior w e next lines
    → Runs first next
happened first w next prior e lines run (does x here range d is) = acted first w run e.who here next e.act x range d
happened first w next prior e lines run (skips here skipped same is) = subst (Runs first) (sym same) run

pub schedules_run : SchedulesRun
schedules_run first w events prior lines (start none p is l) = subst (Runs first) (sym is) runs.start
schedules_run first w events prior lines (more earlier b mid e one two leads happens at p l) =
    happened first mid w b e two (schedules_run first mid earlier b one leads) happens
