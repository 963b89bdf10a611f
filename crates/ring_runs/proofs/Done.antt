-- The worked example: a caller that begins and is done.
use Rattle.std.proofs.Common.{◌≡◌, [], Some, None, refl, arith}
use Rattle.ring_core.specs.declared.kind.Kind.TheVariants.{LoadIndex}
use Rattle.ring_core.specs.declared.stage.Stage.TheVariants.{BeginIndex}
use Rattle.ring_worlds.specs.World.{World, with_process}
use Rattle.ring_worlds.specs.Steps.{seen}
use Rattle.ring_worlds.specs.Moves.{at_stage, ended}
use Rattle.ring_worlds.specs.Calls.{process_at}
use Rattle.ring_runs.specs.declared.event.Act.TheVariants.{Begin, Run, Done}
use Rattle.ring_runs.specs.declared.trace.Happened.TheVariants as happened
use Rattle.ring_runs.specs.Trace.Makes.{none as no_step, more as one_more}
use Rattle.ring_runs.specs.Trace.Happens.{does}
use Rattle.ring_runs.specs.Trace.Leads.{start, more}
use Rattle.ring_runs.specs.Laws.{lone_world, event, DoneExample}

abbrev begun : World
begun = with_process lone_world 0 (at_stage (process_at lone_world 0) BeginIndex)

abbrev started : World
started = seen begun 0 (process_at begun 0) 0

abbrev over : World
over = with_process started 0 (ended started.shape (process_at started 0))

pub done_example : DoneExample
done_example = record {
  prior = Some (event Done 3);
  world = over;
  leads = more _ _ started (event Done 3) _ _
      (more _ _ begun (event Run 2) _ _
      (more _ _ lone_world (event Begin 2) _ _ (start refl refl refl refl)
      (does None (omega arith) tt (refl, refl, (refl, refl)) refl) refl refl refl)
      (does (Some (happened.Start 0)) (omega arith) tt (
        1,
        one_more 0 begun refl (no_step refl refl refl) record {
          kind = LoadIndex;
          step = record { process = process_at begun 0; here = refl; is_kind = refl; steps = (refl, refl) };
          told = refl;
        },
        refl,
      ) refl) refl refl refl)
      (does (Some (happened.Done 0)) (omega arith) tt (record { active = refl; closed = refl }, refl, refl, refl) refl) refl refl refl;
}
