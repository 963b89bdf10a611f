-- Each event leads on, or is the first that is refused.
use Rattle.std.proofs.Common.{◌+◌, List, Some, get_or, refl, sym, subst, take}
use Rattle.ring_runs.specs.declared.event.Act.TheVariants.{Begin}
use Rattle.ring_runs.specs.declared.event.Event.{Event}
use Rattle.ring_runs.specs.declared.trace.TraceLine.{TraceLine}
use Rattle.ring_runs.specs.Trace.{Leads, first_world}
use Rattle.ring_runs.specs.Trace.Leads.{start}
use Rattle.ring_runs.proofs.Leading.{led, fails}
use Rattle.ring_runs.proofs.schedule.replay.Goals as goal

pub loop-at-init : goal.loop-at-init
loop-at-init c = start refl refl c.in-Ok.ensures c.new-lines.ensures.items

pub returns-in-Err : goal.returns-in-Err
returns-in-Err c =
    fails c.args.setup.now c.args.events.now c.loop-at.at c.loop-at.prior c.loop-at.world c.happen.new.world c.loop-at.lines.items _ c.loop-at-test.true
    c.loop-at.invariant c.in-Err.error c.in-Err.ensures

pub loop-at-preserved : goal.loop-at-preserved
loop-at-preserved c =
    let setup = c.args.setup.now in
    let events = c.args.events.now in
    let none : Event = record { who = 0; act = Begin; line = 0 } in
    let e = get_or events c.loop-at.at none in
    subst (λ (lines : List TraceLine). Leads (first_world setup) (take (c.loop-at.at + 1) events) (Some e) c.happen.new.world lines)
    (sym c.in-Ok-note.ensures) (led setup events c.loop-at.at c.loop-at.prior c.loop-at.world c.happen.new.world c.loop-at.lines.items none
    c.loop-at-test.true c.loop-at.invariant c.in-Ok-happen.what c.in-Ok-happen.ensures)
