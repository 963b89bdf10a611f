-- The loads of a request to stamp that is known to be at a stage.
use Rattle.std.proofs.Common.{◌≡◌, ◌≢◌, ℕ, ◌-◌, ◌<◌, ◌==◌, nat_lt, List, refl, sym, ◌∙◌, ap, subst, arith, eqb-true}
use Rattle.std.proofs.lemmas.Bool.{cond_both, ltb-true}
use Rattle.atomic_table.specs.Seated.{TableId}
use Rattle.tx_model.specs.declared.pass.PassState.TheVariants as state
use Rattle.ring_core.specs.declared.shape.Shape.{Shape}
use Rattle.ring_core.specs.declared.caller.Caller.{Caller}
use Rattle.ring_core.specs.declared.action.Progress.{Progress}
use Rattle.ring_core.specs.declared.action.Progress.TheVariants as answer
use Rattle.ring_core.specs.declared.stage.Stage.{Stage}
use Rattle.ring_core.specs.declared.stage.Stage.TheVariants.{Check, StampSlot, StampSwap}
use Rattle.ring_core.specs.declared.stage.Purpose.TheVariants.{Stamp}
use Rattle.ring_core.specs.declared.stage.CheckStage.TheVariants.{Index}
use Rattle.ring_core.specs.Machine.{Machine, at_stage, steps_of}
use Rattle.ring_core.specs.Outcomes.{Outcome, made, absorbed}
use Rattle.ring_core.specs.Request.{next_action}
use Rattle.ring_worlds.proofs.lemmas.Outcomes.{slots}
use Rattle.ring_words.specs.declared.table.About.{About}
use Rattle.ring_words.specs.declared.pass.RingPass.{RingPass}
use Rattle.ring_words.specs.Layout.{IsLoad}
use Rattle.ring_words.specs.Pass.{IsSeated, Found, Stepped, with_local, staged}
use Rattle.ring_words.specs.Stamping.{StampsOn, IsAnswered, by_load}
use Rattle.ring_words.proofs.Seated.{seated_after}
use Rattle.ring_words.proofs.Staged.{taken}
use Rattle.ring_words.proofs.StampSteps.{stamps_itself, stamps_after}
use Rattle.ring_words.proofs.TurnStores.{at_itself, seated_at}

abbrev check : Stage
check = Check Stamp Index

-- no entry is newer than the start, and there may be a further commit: the slot is looked at next
pub stamp_current : (shape : Shape) (c : Caller) (top : ℕ) → top ≡ c.start → top ≢ shape.life
    → made (record c { stage = StampSlot top }) answer.Going ≡ absorbed shape (record c { stage = check }) top
stamp_current shape c top current free =
    cond_both (top == shape.life) _ _ (λ (o : Outcome). made (record c { stage = StampSlot top }) answer.Going ≡ o)
    (λ worn. absurd (free (eqb-true _ _ worn)))
    (λ more. cond_both (nat_lt shape.ring (top - c.start)) _ _ (λ (o : Outcome). made (record c { stage = StampSlot top }) answer.Going ≡ o)
    (λ far. absurd (omega (arith, ltb-true _ _ far, current)))
    (λ near. cond_both (nat_lt c.start top) _ _ (λ (o : Outcome). made (record c { stage = StampSlot top }) answer.Going ≡ o)
    (λ newer. absurd (omega (arith, ltb-true _ _ newer, current)))
    (λ end. λ i. made (record c { start = sym current i; stage = StampSlot top }) answer.Going)))

-- the slot is free: the index is swapped next
pub looked_stage : (shape : Shape) (c : Caller) (top tag : ℕ) (d : Caller) (progress : Progress)
    → made d progress ≡ absorbed shape (record c { stage = StampSlot top }) tag → progress ≡ answer.Going → d.stage ≡ StampSwap top
looked_stage shape c top tag d progress is goes =
    slots shape (record c { stage = StampSlot top }) (λ (o : Outcome). made d progress ≡ o → d.stage ≡ StampSwap top) top tag
    (λ entry busy. absurd (let e = sym goes ∙ ap (λ (o : Outcome). o.progress) busy in cc)) (λ free. ap (λ (o : Outcome). o.caller.stage) free) is

module _ {S : Type 0} (good : S → List ℕ → List ℕ → Type 0) (budget : S → List ℕ → ℕ) (about : About S) (table : TableId) (first now : RingPass S)
    (stage : Stage) (kept : StampsOn first (staged now stage)) (p : IsSeated good budget about table (staged now stage))
    (loads : IsLoad (next_action now.local.shape (at_stage now.local stage).caller)) (mid : RingPass S) (same : mid.local ≡ now.local) (word : ℕ)
    (f : Found good budget (staged now stage) mid word) (local : Machine) (progress : Progress)
    (o : made local.caller progress ≡ absorbed mid.local.shape (at_stage mid.local stage).caller word) (shape : local.shape ≡ mid.local.shape)
    (fewer : steps_of local < steps_of (at_stage mid.local stage)) where
  t : Stepped good budget (staged now stage) (with_local mid local) progress
  t =
      taken good budget about table now stage p mid word f local progress
      (o ∙ ap (λ (m : Machine). absorbed m.shape (at_stage m stage).caller word) same) (shape ∙ ap (λ (m : Machine). m.shape) same)

  left : steps_of local < steps_of (at_stage now.local stage)
  left = subst (λ (m : Machine). steps_of local < steps_of (at_stage m stage)) same fewer

  load_seated : IsSeated good budget about table (with_local mid local)
  load_seated = seated_after good budget about table (staged now stage) p (with_local mid local) progress t

  load_goes : progress ≡ answer.Going → StampsOn first (with_local mid local)
  load_goes is = stamps_after good budget about table first (staged now stage) (with_local mid local) progress kept p t left loads is

  load_answers : progress ≢ answer.Going → IsAnswered good budget about table first (with_local mid local) progress
  load_answers over = by_load (staged now stage) p kept t left loads over

module _ {S : Type 0} (good : S → List ℕ → List ℕ → Type 0) (budget : S → List ℕ → ℕ) (about : About S) (table : TableId) (first : RingPass S)
    (p : IsSeated good budget about table first) (active : first.local.caller.state ≡ state.Active) (begins : first.local.caller.stage ≡ check)
    (mid : RingPass S) (same : mid.local ≡ first.local) (top : ℕ) (f : Found good budget (staged first check) mid top) where
  opened : StampsOn first (staged first check)
  opened = subst (StampsOn first) (at_itself first check begins) (stamps_itself first begins active)

  p' : IsSeated good budget about table (staged first check)
  p' = seated_at good budget about table first check begins p

  -- the check goes on, or is answered
  module _ (local : Machine) (progress : Progress) (o : made local.caller progress ≡ absorbed mid.local.shape (at_stage mid.local check).caller top)
      (shape : local.shape ≡ mid.local.shape) (fewer : steps_of local < steps_of (at_stage mid.local check)) where
    pub checked_seated : IsSeated good budget about table (with_local mid local)
    checked_seated = load_seated good budget about table first first check opened p' tt mid same top f local progress o shape fewer

    pub checked_goes : progress ≡ answer.Going → StampsOn first (with_local mid local)
    checked_goes = load_goes good budget about table first first check opened p' tt mid same top f local progress o shape fewer

    pub checked_answers : progress ≢ answer.Going → IsAnswered good budget about table first (with_local mid local) progress
    checked_answers = load_answers good budget about table first first check opened p' tt mid same top f local progress o shape fewer

  -- it is over, and the slot is looked at
  module _ (current : top ≡ mid.local.caller.start) (free : top ≢ mid.local.shape.life) where
    pub slot_seated : IsSeated good budget about table (staged mid (StampSlot top))
    slot_seated =
        load_seated good budget about table first first check opened p' tt mid same top f (at_stage mid.local (StampSlot top)) answer.Going
        (stamp_current mid.local.shape mid.local.caller top current free) refl (omega arith)

    slot_kept : StampsOn first (staged mid (StampSlot top))
    slot_kept =
        load_goes good budget about table first first check opened p' tt mid same top f (at_stage mid.local (StampSlot top)) answer.Going
        (stamp_current mid.local.shape mid.local.caller top current free) refl (omega arith) refl

    module _ (end : RingPass S) (same' : end.local ≡ mid.local) (tag : ℕ) (f' : Found good budget (staged mid (StampSlot top)) end tag) (local : Machine)
        (progress : Progress) (o : made local.caller progress ≡ absorbed end.local.shape (at_stage end.local (StampSlot top)).caller tag)
        (shape : local.shape ≡ end.local.shape) (fewer : steps_of local < steps_of (at_stage end.local (StampSlot top))) where
      pub looked_seated : IsSeated good budget about table (with_local end local)
      looked_seated =
          load_seated good budget about table first mid (StampSlot top) slot_kept slot_seated tt end same' tag f' local progress o shape fewer

      pub looked_goes : progress ≡ answer.Going → StampsOn first (with_local end local)
      looked_goes = load_goes good budget about table first mid (StampSlot top) slot_kept slot_seated tt end same' tag f' local progress o shape fewer

      pub looked_answers : progress ≢ answer.Going → IsAnswered good budget about table first (with_local end local) progress
      looked_answers = load_answers good budget about table first mid (StampSlot top) slot_kept slot_seated tt end same' tag f' local progress o shape fewer
