-- The event is done by its caller, or may not be done.
use Rattle.std.proofs.Common.{◌<◌, length, Err, ◌≡◌, refl, sym, ◌∙◌, ap, subst, arith, rules}
use Rattle.std.proofs.lemmas.Bool.{false≢true}
use Rattle.ring_runs.specs.declared.acts.Undone.TheVariants.{NotNow}
use Rattle.ring_runs.specs.Trace.Happens.{does}
use Rattle.ring_runs.specs.Acts.{Acts}
use Rattle.ring_runs.proofs.Leading.{not_now}
use Rattle.ring_runs.proofs.schedule.happen.Goals as goal

pub returns-in-Ok : goal.returns-in-Ok
returns-in-Ok c =
    let here : c.args.event.who < length c.args.world.now.processes = omega (arith, c.if-event-callers.false, c.callers.ensures) in
    does c.in-Ok.what here (c.in_range.ensures.0 c.if-not-in_range.false) c.in-Ok.ensures refl

pub returns-in-Err-NotNow : goal.returns-in-Err-NotNow
returns-in-Err-NotNow c =
    let answer : c.act.result ≡ Err NotNow = c.in-Err-NotNow.is ∙ ap (λ undone. Err undone) c.in-Err-NotNow.field-0-is in
    let here : c.args.event.who < length c.args.world.now.processes = omega (arith, c.if-event-callers.false, c.callers.ensures) in (
      refl,
      here,
      c.in_range.ensures.0 c.if-not-in_range.false,
      not_now c.args.prior c.args.world.now c.args.event (λ skipped. false≢true (sym c.if-is_skipped.false ∙ c.is_skipped.ensures.1 skipped))
          (subst (Acts c.args.world.now c.args.event.who c.args.event.act c.act.new.world) answer c.act.ensures),
    )

pub returns-then-event-callers : goal.returns-then-event-callers
returns-then-event-callers c = search rules
