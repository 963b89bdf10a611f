-- The signature has one more place, and no request is open.
use Rattle.std.proofs.Common.{sym, ◌∙◌, ap, subst}
use Rattle.ring_core.specs.declared.caller.Caller.{Caller}
use Rattle.ring_core.specs.Machine.{Machine}
use Rattle.ring_core.specs.Request.{is_open}
use Rattle.ring_core.specs.Sound.{IsSound}
use Rattle.ring_core.proofs.Staged.{read_keeps}
use Rattle.ring_core.proofs.local.Local.absorb_read.Goals as goal

pub invariant_of-self : goal.invariant_of-self
invariant_of-self c = record {
  limits = c.self.invariant.limits;
  sound = subst (λ (d : Caller). IsSound c.self.inside.shape d) (sym c.add_read.ensures)
      (read_keeps c.self.inside.shape c.self.inside.caller c.args.addr
      (ap (λ (m : Machine). m.caller.state) c.self.view_is ∙ c.requires.active)
      (ap (λ (m : Machine). is_open m.caller.stage) c.self.view_is ∙ c.requires.closed) c.self.invariant.sound);
}
