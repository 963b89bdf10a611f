use Rattle.std.proofs.Common.{◌<◌, sym, subst, OnOk}
use Rattle.ring_core.specs.Machine.{Machine}
use Rattle.ring_core.specs.Moves.{IsAtRest, IsMoved}
use Rattle.ring_core.proofs.MovesKept.{write_moves, write_keeps}
use Rattle.ring_core.proofs.local.Local.put_write.Goals as goal

module _ (c : goal.After-write) where
  moves : OnOk c.write.result (IsMoved c.self.inside.shape c.self.inside.caller c.write.new.self)
  moves =
      write_moves c.self.inside.shape c.self.inside.caller c.write.new.self c.args.addr c.args.value c.write.result
      (subst (λ (m : Machine). IsAtRest m.caller) (sym c.self.view_is) (record { active = c.requires.active; closed = c.requires.closed }))
      (subst (λ (m : Machine). c.args.addr < m.shape.heap) (sym c.self.view_is) c.requires.heap) c.write.ensures.full c.write.ensures.ok

pub invariant_of-self : goal.invariant_of-self
invariant_of-self c = record {
  limits = c.self.invariant.limits;
  sound = write_keeps _ _ _ c.write.result c.move_keeps.ensures c.self.invariant.limits c.self.invariant.sound (moves c) c.write.ensures.kept;
}

pub returns-clause-moved : goal.returns-clause-moved
returns-clause-moved c =
    subst (λ (m : Machine). OnOk c.write.result (IsMoved m.shape m.caller c.write.new.self)) c.self.view_is (moves c)
