-- The steps go on until one ends the request.
use Rattle.std.proofs.Common.{◌+◌, ◌<◌, refl, sym, ◌∙◌, subst}
use Rattle.ring_core.specs.declared.shape.Shape.{Shape}
use Rattle.ring_core.specs.Steps.{steps_left}
use Rattle.ring_worlds.specs.Calls.{process_at}
use Rattle.ring_runs.specs.declared.acts.Undone.TheVariants.{NotNow}
use Rattle.ring_runs.specs.Trace.Makes.{none as no_step, more as one_more}
use Rattle.ring_runs.specs.Acts.{HasTold}
use Rattle.ring_runs.proofs.Acting.{no_kind, run_fails}
use Rattle.ring_runs.proofs.acts.run.Goals as goal

pub loop-world-init : goal.loop-world-init
loop-world-init c = record { makes = (0, no_step refl refl refl); callers = refl }

pub returns-in-Ok-Some : goal.returns-in-Ok-Some
returns-in-Ok-Some c =
    let made = c.loop-world.invariant.makes in
    let told = subst (λ o. HasTold c.loop-world.world c.args.who o c.step.new.world) c.in-Ok-Some.field-0-is c.in-Ok-Some.ensures in
    (made.0 + 1, one_more made.0 c.loop-world.world refl made.1 told.tells, refl)

pub returns-in-Err : goal.returns-in-Err
returns-in-Err c =
    let made = c.loop-world.invariant.makes in
    run_fails c.next_step.ensures.unique c.args.who c.args.world.now made.0 c.loop-world.world c.step.new.world c.step.new.world made.1 c.in-Err.undone
    c.in-Err.ensures

pub returns : goal.returns
returns c =
    let made = c.loop-world.invariant.makes in
    run_fails c.next_step.ensures.unique c.args.who c.args.world.now made.0 c.loop-world.world c.loop-world.world c.loop-world.world made.1 NotNow
    (no_kind c.loop-world.world c.args.who c.kind.result c.kind.ensures.kind (sym c.is_some.ensures ∙ c.loop-world-test.false))

pub loop-world-preserved : goal.loop-world-preserved
loop-world-preserved c =
    let made = c.loop-world.invariant.makes in
    let told = subst (λ o. HasTold c.loop-world.world c.args.who o c.step.new.world) c.in-Ok-None.field-0-is c.in-Ok-None.ensures in
    record {
      makes = (made.0 + 1, one_more made.0 c.loop-world.world refl made.1 told.tells);
      callers = told.shorter.callers ∙ c.loop-world.invariant.callers;
    }

pub loop-world-smaller : goal.loop-world-smaller
loop-world-smaller c =
    let told = subst (λ o. HasTold c.loop-world.world c.args.who o c.step.new.world) c.in-Ok-None.field-0-is c.in-Ok-None.ensures in
    let next = (process_at c.step.new.world c.args.who).caller in
    let now = (process_at c.loop-world.world c.args.who).caller in
    subst (λ (s : Shape). steps_left s next < steps_left c.loop-world.world.shape now) (sym told.shorter.shape) told.shorter.fewer
