use Rattle.std.proofs.Common.{◌<◌, sym, subst, inl, inr, ◌∙◌}
use Rattle.std.proofs.lemmas.Bool.{false≢true}
use Rattle.ring_core.specs.Outcomes.{made}
use Rattle.ring_core.specs.Steps.{steps_left}
use Rattle.ring_core.specs.Words.{CanAbsorb}
use Rattle.ring_core.specs.Machine.{Machine, steps_of}
use Rattle.ring_core.proofs.Kept.{Keeps}
use Rattle.ring_core.proofs.KeptAll.{absorbed_keeps}
use Rattle.ring_core.proofs.local.Local.absorb.Goals as goal

module _ (c : goal.After-absorb) where
  keeps : Keeps c.self.inside.shape (steps_left c.self.inside.shape c.self.inside.caller) (made c.absorb.new.self c.absorb.result)
  keeps =
      let fits : CanAbsorb c.self.inside.shape c.self.inside.caller c.args.word =
      subst (λ (m : Machine). CanAbsorb m.shape m.caller c.args.word) (sym c.self.view_is) c.requires in
      subst (λ o. Keeps c.self.inside.shape (steps_left c.self.inside.shape c.self.inside.caller) o) (sym c.absorb.ensures)
      (absorbed_keeps c.self.inside.shape c.self.invariant.limits c.self.inside.caller c.self.invariant.sound c.args.word fits)

pub invariant_of-self : goal.invariant_of-self
invariant_of-self c = record { limits = c.self.invariant.limits; sound = (keeps c).sound }

pub returns-clause-steps : goal.returns-clause-steps
returns-clause-steps c =
    subst (λ (m : Machine). steps_left c.self.inside.shape c.absorb.new.self < steps_of m) c.self.view_is (keeps c).fewer

pub returns-clause-ends : goal.returns-clause-ends
returns-clause-ends c =
    elim (keeps c).tells [
      | inl (goes_on, going) ↦ (λ ended. absurd (ended going), λ closed. absurd (false≢true (sym closed ∙ goes_on)))
      | inr (closed, ended) ↦ (λ _. closed, λ _. ended)
    ]
