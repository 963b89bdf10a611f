use Rattle.std.proofs.Common.{◌<◌, sym, subst, IfNone}
use Rattle.ring_core.specs.declared.caller.Caller.{Caller}
use Rattle.ring_core.specs.declared.stage.Stage.TheVariants.{ReadHeap}
use Rattle.ring_core.specs.Machine.{Machine}
use Rattle.ring_core.specs.Moves.{IsAtRest, IsMoved}
use Rattle.ring_core.proofs.MovesKept.{read_moves}
use Rattle.ring_core.proofs.local.Local.start_read.Goals as goal

pub returns-then-is_none-clause-moved : goal.returns-then-is_none-clause-moved
returns-then-is_none-clause-moved c =
    let opened : Caller = record c.self.inside.caller { stage = ReadHeap c.args.addr } in
    subst (λ (m : Machine). IfNone c.value_of-written.result (IsMoved m.shape m.caller opened)) c.self.view_is
    (read_moves c.self.inside.shape c.self.inside.caller c.args.addr c.value_of-written.result c.value_exactly.ensures
    (subst (λ (m : Machine). IsAtRest m.caller) (sym c.self.view_is) (record { active = c.requires.active; closed = c.requires.closed }))
    (subst (λ (m : Machine). c.args.addr < m.shape.heap) (sym c.self.view_is) c.requires.heap) c.value_of-written.ensures)
