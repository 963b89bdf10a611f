-- A caller that is known to be at a stage takes in a word as one that is there.
use Rattle.std.proofs.Common.{◌<◌, sym, subst, inl, inr, ◌∙◌}
use Rattle.std.proofs.lemmas.Bool.{false≢true}
use Rattle.ring_core.specs.declared.caller.Caller.{Caller}
use Rattle.ring_core.specs.Outcomes.{made}
use Rattle.ring_core.specs.Sound.{IsSound}
use Rattle.ring_core.specs.Steps.{steps_left}
use Rattle.ring_core.specs.Words.{CanAbsorb}
use Rattle.ring_core.specs.Machine.{Machine, at_stage, steps_of}
use Rattle.ring_core.proofs.Kept.{Keeps}
use Rattle.ring_core.proofs.KeptAll.{absorbed_keeps}
use Rattle.ring_core.proofs.local.Local.take_at.Goals as goal

module _ (c : goal.After-take_at) where
  abbrev here : Caller
  here = record c.self.inside.caller { stage = c.args.stage }

  keeps : Keeps c.self.inside.shape (steps_left c.self.inside.shape here) (made c.take_at.new.self c.take_at.result)
  keeps =
      let fits : CanAbsorb c.self.inside.shape here c.args.word =
      subst (λ (m : Machine). CanAbsorb m.shape (at_stage m c.args.stage).caller c.args.word) (sym c.self.view_is) c.requires.fits in
      let sound : IsSound c.self.inside.shape here =
      subst (λ (m : Machine). IsSound m.shape (at_stage m c.args.stage).caller) (sym c.self.view_is) c.requires.sound in
      subst (λ o. Keeps c.self.inside.shape (steps_left c.self.inside.shape here) o) (sym c.take_at.ensures)
      (absorbed_keeps c.self.inside.shape c.self.invariant.limits here sound c.args.word fits)

pub invariant_of-self : goal.invariant_of-self
invariant_of-self c = record { limits = c.self.invariant.limits; sound = (keeps c).sound }

pub returns-clause-steps : goal.returns-clause-steps
returns-clause-steps c =
    subst (λ (m : Machine). steps_left c.self.inside.shape c.take_at.new.self < steps_of (at_stage m c.args.stage)) c.self.view_is (keeps c).fewer

pub returns-clause-ends : goal.returns-clause-ends
returns-clause-ends c =
    elim (keeps c).tells [
      | inl (goes_on, going) ↦ (λ ended. absurd (ended going), λ closed. absurd (false≢true (sym closed ∙ goes_on)))
      | inr (closed, ended) ↦ (λ _. closed, λ _. ended)
    ]
