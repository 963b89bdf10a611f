-- What the world's step answers is told, and with no request open there is none.
use Rattle.std.proofs.Common.{◌∙◌, ap, not}
use Rattle.ring_runs.proofs.Acting.{no_kind, asking, told_step}
use Rattle.ring_runs.proofs.acts.step.Goals as goal

pub returns-then-is_none : goal.returns-then-is_none
returns-then-is_none c =
    no_kind c.args.world.now c.args.who c.kind.result c.kind.ensures.kind (c.is_none.ensures ∙ ap not c.if-is_none.true)

pub step-requires : goal.step-requires
step-requires c = asking c.args.world.now c.args.who c.kind.result c.kind.ensures.next (c.is_none.ensures ∙ ap not c.if-is_none.false)

pub returns-in-Ok : goal.returns-in-Ok
returns-in-Ok c =
    told_step c.steps_shorten.ensures c.args.world.now c.step.new.self c.args.who c.is_sound.ensures c.asked-asked.result c.asked-asked.ensures
    c.in-Ok.progress c.in-Ok.ensures.made c.told.result c.told.ensures
