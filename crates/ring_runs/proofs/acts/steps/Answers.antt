-- Only the last step may end the request.
use Rattle.std.proofs.Common.{◌+◌, ◌<◌, None, refl, ◌∙◌, subst, arith}
use Rattle.ring_runs.specs.Trace.Makes.{none as no_step, more as one_more}
use Rattle.ring_runs.specs.Acts.{HasTold}
use Rattle.ring_runs.proofs.Acting.{steps_fail, steps_end, steps_past}
use Rattle.ring_runs.proofs.acts.steps.Goals as goal

pub loop-made-init : goal.loop-made-init
loop-made-init c = record { makes = no_step refl refl refl; callers = refl }

pub returns-in-Ok-Some : goal.returns-in-Ok-Some
returns-in-Ok-Some c =
    steps_end c.next_step.ensures.unique c.args.who c.args.world.now c.loop-made.made c.args.count c.loop-made.world c.step.new.world c.in-Ok-Some.what
    c.loop-made.invariant.makes (subst (λ o. HasTold c.loop-made.world c.args.who o c.step.new.world) c.in-Ok-Some.field-0-is c.in-Ok-Some.ensures)
    c.if-made-count.true

pub returns-in-Ok-Some-2 : goal.returns-in-Ok-Some-2
returns-in-Ok-Some-2 c =
    let early : c.loop-made.made + 1 < c.args.count = omega (arith, c.if-made-count.false, c.loop-made-test.true) in
    steps_past c.next_step.ensures.unique c.args.who c.args.world.now c.loop-made.made c.args.count c.loop-made.world c.step.new.world c.step.new.world
    c.in-Ok-Some.what c.loop-made.invariant.makes
    (subst (λ o. HasTold c.loop-made.world c.args.who o c.step.new.world) c.in-Ok-Some.field-0-is c.in-Ok-Some.ensures) early

pub returns-in-Err : goal.returns-in-Err
returns-in-Err c =
    steps_fail c.next_step.ensures.unique c.args.who c.args.world.now c.loop-made.made c.args.count c.loop-made.world c.step.new.world c.step.new.world
    c.loop-made.invariant.makes c.loop-made-test.true c.in-Err.undone c.in-Err.ensures

pub loop-made-preserved : goal.loop-made-preserved
loop-made-preserved c =
    let told : HasTold c.loop-made.world c.args.who None c.step.new.world =
    subst (λ o. HasTold c.loop-made.world c.args.who o c.step.new.world) c.in-Ok-None.field-0-is c.in-Ok-None.ensures in
    record {
      makes = one_more c.loop-made.made c.loop-made.world refl c.loop-made.invariant.makes told.tells;
      callers = told.shorter.callers ∙ c.loop-made.invariant.callers;
    }
