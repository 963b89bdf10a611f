-- A step of a stored world is one of the world that it stands for.
use Rattle.std.proofs.Common.{◌≡◌, ℕ, Some, Result, Ok, Err, IfOk, OnErr, refl, sym, ◌∙◌, ap, subst, ⊎_elim, eq-eqb, ◌==◌}
use Rattle.std.proofs.lemmas.Bool.{cond_both, cond-true, eqb-true}
use mathlib.Core.Option.{some-injective}
use Rattle.tx_model.specs.declared.pass.Memory.{Memory}
use Rattle.ring_core.specs.declared.action.Progress.{Progress}
use Rattle.ring_core.specs.declared.kind.Kind.{Kind}
use Rattle.ring_core.specs.declared.kind.Kind.TheVariants as kind
use Rattle.ring_core.specs.Kinds.{kind_at}
use Rattle.ring_core.specs.Request.{next_action}
use Rattle.ring_worlds.specs.declared.process.Process.{Process}
use Rattle.ring_state.specs.declared.plain.Plain.{Plain}
use Rattle.ring_worlds.specs.World.{World}
use Rattle.ring_worlds.specs.Runs.{resting}
use Rattle.ring_worlds.specs.Sound.{Sound}
use Rattle.ring_worlds.specs.Steps.{StepsTo, Steps, seen, with_commit, answer_of}
use Rattle.ring_worlds.specs.Laws.{StepsKeep, StepExists}
use Rattle.ring_state.specs.Kept.{world_of, IsKept, landed, HasStepped, IsSame}
use Rattle.ring_worlds.specs.Calls.{process_at}
use Rattle.ring_worlds.specs.Calls.{IsAsking, IsNext, HasMade, KeepsAndTells}
use Rattle.ring_worlds.proofs.lemmas.Elements.{get_there}
use Rattle.ring_worlds.proofs.lemmas.Kinds.{open_at}
use Rattle.ring_runs.proofs.Moving.{nothing_sealed}

-- the world after a step is that of its action
module _ (w : World) (who : ℕ) (p : Process) (next : World) where
  lands : (kind : Kind) → StepsTo w who p kind next → next ≡ landed w who p (next_action w.shape p.caller)
  lands kind.LoadIndex s = s.1 ∙ ap (landed w who p) (sym s.0)
  lands kind.LoadTag (slot, s) = s.1 ∙ ap (landed w who p) (sym s.0)
  lands kind.LoadSig s = s.2.1 ∙ ap (landed w who p) (sym s.2.0)
  lands kind.LoadHeap (addr, s) = s.1 ∙ ap (landed w who p) (sym s.0)
  lands kind.SwapIndex (from, is, found) =
      ⊎_elim (λ s. s.1 ∙ sym (cond-true (w.index == from) (with_commit w who p) (seen w who p w.index) (eq-eqb w.index from s.0)))
      (λ s. s.1 ∙ cond_both (w.index == from) _ _ (λ world. seen w who p w.index ≡ world) (λ yes. absurd (s.0 (eqb-true w.index from yes))) (λ no. refl)) found
      ∙ ap (landed w who p) (sym is)
  lands kind.StoreTagFilling (slot, tag, is, stored) = stored ∙ ap (landed w who p) (sym is)
  lands kind.StoreSig (slot, word, value, is, stored) = stored ∙ ap (landed w who p) (sym is)
  lands kind.StoreTagWriting (slot, tag, is, stored) = stored ∙ ap (landed w who p) (sym is)
  lands kind.StoreHeap (addr, value, is, stored) = stored ∙ ap (landed w who p) (sym is)
  lands kind.StoreTagComplete (slot, tag, is, stored) = stored ∙ ap (landed w who p) (sym is)

made : StepExists → (w : World) (who : ℕ) (asking : IsAsking w who) (progress : Progress) (next : World)
    → next ≡ landed w who (process_at w who) (next_action w.shape (process_at w who).caller) → progress ≡ answer_of w (process_at w who)
    → HasMade w who progress next
made exists w who asking progress next lands_at answer =
    let p = asking.process in
    let at : process_at w who ≡ p = get_there w.processes who p (resting w.shape) asking.here in
    let (kind, first, steps) = exists w who p asking.here asking.asks in
    let same : steps.process ≡ p = some-injective steps.process p (sym steps.here ∙ asking.here) in
    let there : StepsTo w who p kind first = subst (λ (q : Process). StepsTo w who q kind first) same steps.steps in
    let one : first ≡ next = lands w who p first kind there ∙ sym (ap (λ (q : Process). landed w who q (next_action w.shape q.caller)) at) ∙ sym lands_at in
    record {
      kind = kind;
      step = record {
        process = p;
        here = asking.here;
        is_kind = subst (λ (q : Process). kind_at q.caller.stage ≡ Some kind) same steps.is_kind;
        steps = subst (StepsTo w who p kind) one there;
      };
      answer = answer ∙ ap (answer_of w) at;
    }

module _ (each : StepsKeep) (exists : StepExists) (d : Plain) (kept : IsKept d) (w : World) (view : world_of d ≡ w) (who : ℕ) (asking : IsAsking w who)
    (next : Plain) where
  pub has_made : (result : Result Progress Memory) → IfOk result (λ progress. HasStepped (world_of d) who progress next)
      → IfOk result (λ progress. HasMade w who progress (world_of next))
  has_made (Ok progress) stepped =
      let of : HasStepped w who progress next = subst (λ w. HasStepped w who progress next) view stepped in
      made exists w who asking progress (world_of next) of.world of.answer
  has_made (Err e) stepped = tt

  pub kept_after : (result : Result Progress Memory) → IfOk result (λ progress. HasStepped (world_of d) who progress next)
      → OnErr result (IsSame (world_of d) next) → IsKept next
  kept_after (Ok progress) stepped same =
      let made = has_made (Ok progress) stepped in
      record {
        sound = (each made.kind w (world_of next) who (subst Sound view kept.sound) made.step).0;
        nothing_sealed = nothing_sealed next;
        shapes = stepped.shapes;
      }
  kept_after (Err e) stepped same = record {
    sound = subst Sound (sym same.world) kept.sound;
    nothing_sealed = nothing_sealed next;
    shapes = same.shapes;
  }

-- ---- the law of a kind
pub asks_of : (w : World) (who : ℕ) (kind : Kind) → IsNext w who kind → IsAsking w who
asks_of w who kind next = record {
  process = next.process;
  here = next.here;
  asks = open_at next.process.caller.stage kind next.is_kind;
}

pub tells : StepsKeep → (w next : World) (who : ℕ) (progress : Progress) → Sound w → HasMade w who progress next → (kind : Kind) → IsNext w who kind
    → KeepsAndTells w who kind progress next
tells each w next who progress sound made kind is =
    let p = made.step.process in
    let one : is.process ≡ p = some-injective is.process p (sym is.here ∙ made.step.here) in
    let is_kind : kind_at p.caller.stage ≡ Some kind = subst (λ (q : Process). kind_at q.caller.stage ≡ Some kind) one is.is_kind in
    let some_same : Some made.kind ≡ Some kind = sym made.step.is_kind ∙ is_kind in
    let same : made.kind ≡ kind = cc in
    let step : Steps w who kind next = record {
      process = p;
      here = made.step.here;
      is_kind = is_kind;
      steps = subst (λ (k : Kind). StepsTo w who p k next) same made.step.steps;
    } in
    let law = each kind w next who sound step in
    record {
      before = sound;
      step = step;
      after = law.0;
      answer = made.answer;
      learns = law.1;
    }

pub tells_all : StepsKeep → (w next : World) (who : ℕ) → Sound w → (result : Result Progress Memory) → IfOk result (λ progress. HasMade w who progress next)
    → (kind : Kind) → IsNext w who kind → IfOk result (λ progress. KeepsAndTells w who kind progress next)
tells_all each w next who sound (Ok progress) made kind is = tells each w next who progress sound made kind is
tells_all each w next who sound (Err e) made kind is = tt
