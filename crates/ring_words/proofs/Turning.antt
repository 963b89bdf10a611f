-- A turn goes on by its steps, until one answers it.
use Rattle.std.proofs.Common.{◌≡◌, ◌≢◌, ℕ, ◌+◌, ◌-◌, ◌*◌, ◌<◌, ◌≤◌, nat_lt, nat_le, List, set, take, Some, refl, sym, ◌∙◌, ap, subst, arith}
use Rattle.std.proofs.lemmas.Bool.{cond_both}
use Rattle.atomic_table.specs.Seated.{TableId}
use Rattle.tx_model.specs.declared.pass.PassState.{PassState}
use Rattle.tx_model.specs.declared.pass.PassState.TheVariants as state
use Rattle.tx_model.specs.Calls.{IsLater}
use Rattle.tx_model.proofs.lemmas.Calls.{later_itself, later_then}
use Rattle.ring_sig.specs.Signature.{meets}
use Rattle.ring_core.specs.declared.shape.Shape.{Shape}
use Rattle.ring_core.specs.declared.caller.Caller.{Caller}
use Rattle.ring_core.specs.declared.action.Later.TheVariants.{Order}
use Rattle.ring_core.specs.declared.action.Progress.{Progress}
use Rattle.ring_core.specs.declared.action.Progress.TheVariants as answer
use Rattle.ring_core.specs.declared.stage.Stage.{Stage}
use Rattle.ring_core.specs.declared.stage.Stage.TheVariants.{Closed, BeginIndex, BeginTag, ReadHeap, Check, StampSlot, StampSwap, Turn, Between}
use Rattle.ring_core.specs.declared.stage.TurnStage.{TurnStage}
use Rattle.ring_core.specs.declared.stage.TurnStage.TheVariants.{Filling, Signature, Writing, Earlier, EarlierWords, EarlierAgain, Heap, Before, Complete}
use Rattle.ring_core.specs.declared.kind.Kind.TheVariants as kind
use Rattle.ring_core.specs.Kinds.{kind_at}
use Rattle.ring_core.specs.Request.{action_at, turn_action}
use Rattle.ring_core.specs.Machine.{steps_of}
use Rattle.ring_core.specs.Outcomes.{Outcome, made, goes, idle, waits, earlier_from, outcome_at, turn_after}
use Rattle.ring_core.specs.Sound.{IsStage, IsTurnStage}
use Rattle.ring_worlds.specs.declared.process.Process.{Process}
use Rattle.ring_worlds.specs.World.{attempt_of}
use Rattle.ring_words.specs.declared.table.About.{About}
use Rattle.ring_words.specs.declared.pass.RingPass.{RingPass}
use Rattle.ring_words.specs.Layout.{IsLoad}
use Rattle.ring_words.specs.Stores.{IsStore}
use Rattle.ring_words.specs.Pass.{process_with, process_by, view_of, attempt_now, IsSeated, Stepped}
use Rattle.ring_words.specs.Turns.{IsTurn, StillStamped, IsTurning, TurnAnswered}
use Rattle.ring_words.proofs.Seated.{caller_now, now_is, from, after, outcome, made_is, caller_is, later_after, steps_after, new_now}

-- what a step of a turn, which found this word, leads to. `stage` is the caller's
pub data Turned (shape : Shape) (c : Caller) (stage : Stage) (word : ℕ) (o : Outcome) : Type 0 where
  goes_on : (loaded : List ℕ) (next : TurnStage) → o ≡ goes (record c { loaded = loaded }) (Turn next) → Turned shape c stage word o
  waits_for : (next : TurnStage) (entry : ℕ) → 1 ≤ entry → kind_at stage ≡ Some kind.LoadTag → o ≡ waits c next entry word → Turned shape c stage word o
  completes : o ≡ made (idle shape c) (answer.Completed c.stamp) → Turned shape c stage word o

module _ (shape : Shape) (c : Caller) where
  walks : (stage : Stage) (word : ℕ) (loaded : List ℕ) (at : ℕ) → Turned shape c stage word (earlier_from (record c { loaded = loaded }) at)
  walks stage word loaded at = goes_on loaded _ refl

  turned_in : (inner : TurnStage) (word : ℕ) → IsTurnStage shape c inner → Turned shape c (Turn inner) word (turn_after shape c inner word)
  turned_in Filling word at = goes_on c.loaded _ refl
  turned_in (Signature j) word at = goes_on c.loaded _ refl
  turned_in Writing word at = walks (Turn Writing) word c.loaded _
  turned_in (Earlier entry) tag at =
      cond_both (nat_le (4 * entry + 3) tag) _ _ (Turned shape c (Turn (Earlier entry)) tag) (λ done. walks (Turn (Earlier entry)) tag c.loaded _)
      (λ more. goes_on c.loaded _ refl)
  turned_in (EarlierWords entry j) word at =
      cond_both (nat_lt (j + 1) shape.sig_words) _ _ (Turned shape c (Turn (EarlierWords entry j)) word) (λ more. goes_on (set c.loaded j word) _ refl)
      (λ all. cond_both (meets (take shape.sig_words (set c.loaded j word)) c.write_sig) _ _ (Turned shape c (Turn (EarlierWords entry j)) word)
      (λ met. goes_on (set c.loaded j word) _ refl) (λ apart. walks (Turn (EarlierWords entry j)) word (set c.loaded j word) _))
  turned_in (EarlierAgain entry) tag at =
      cond_both (nat_le (4 * entry + 3) tag) _ _ (Turned shape c (Turn (EarlierAgain entry)) tag) (λ done. walks (Turn (EarlierAgain entry)) tag c.loaded _)
      (λ not_yet. waits_for _ entry (omega (arith, at.0)) refl refl)
  turned_in (Heap index) word at = goes_on c.loaded _ refl
  turned_in Before tag at =
      cond_both (nat_le (4 * (c.stamp - 1) + 3) tag) _ _ (Turned shape c (Turn Before) tag) (λ done. goes_on c.loaded _ refl)
      (λ not_yet. waits_for _ (c.stamp - 1) (omega (arith, at)) refl refl)
  turned_in Complete word at = completes refl

  pub turned_at : (stage : Stage) (word : ℕ) → IsTurn stage → IsStage shape c stage → Turned shape c stage word (outcome_at shape c stage word)
  turned_at Closed word turn at = absurd turn
  turned_at BeginIndex word turn at = absurd turn
  turned_at (BeginTag top entry) word turn at = absurd turn
  turned_at (ReadHeap addr) word turn at = absurd turn
  turned_at (Check why inner) word turn at = absurd turn
  turned_at (StampSlot top) word turn at = absurd turn
  turned_at (StampSwap top) word turn at = absurd turn
  turned_at (Turn inner) word turn at = turned_in inner word at.1
  turned_at (Between inner) word turn at = absurd turn

  -- a step of a turn stores a word, or loads one
  loads_in : (inner : TurnStage) → (IsStore (turn_action shape c inner) → ⊥) → IsLoad (turn_action shape c inner)
  loads_in Filling stored = stored tt
  loads_in (Signature j) stored = stored tt
  loads_in Writing stored = stored tt
  loads_in (Earlier entry) stored = tt
  loads_in (EarlierWords entry j) stored = tt
  loads_in (EarlierAgain entry) stored = tt
  loads_in (Heap index) stored = stored tt
  loads_in Before stored = tt
  loads_in Complete stored = stored tt

  pub loads_else : (stage : Stage) → IsTurn stage → (IsStore (action_at shape c stage) → ⊥) → IsLoad (action_at shape c stage)
  loads_else Closed turn stored = absurd turn
  loads_else BeginIndex turn stored = absurd turn
  loads_else (BeginTag top entry) turn stored = absurd turn
  loads_else (ReadHeap addr) turn stored = absurd turn
  loads_else (Check why inner) turn stored = absurd turn
  loads_else (StampSlot top) turn stored = absurd turn
  loads_else (StampSwap top) turn stored = absurd turn
  loads_else (Turn inner) turn stored = loads_in inner stored
  loads_else (Between inner) turn stored = absurd turn

pub turning_itself : {S : Type 0} (pass : RingPass S) → pass.local.caller.state ≡ state.Stamped → IsTurn pass.local.caller.stage → IsTurning pass pass
turning_itself pass stamped turn =
    record {
      still = record { stamped = stamped; later = later_itself (view_of pass); same = refl };
      stamp = refl;
      turn = turn;
      seals = refl;
      steps = omega arith;
      more = omega arith;
    }

pub turning_then : {S : Type 0} (old mid new : RingPass S) → IsTurning old mid → IsTurning mid new → IsTurning old new
turning_then old mid new a b =
    record {
      still = record { stamped = b.still.stamped; later = later_then a.still.later b.still.later; same = b.still.same ∙ a.still.same };
      stamp = b.stamp ∙ a.stamp;
      turn = b.turn;
      seals = b.seals ∙ a.seals;
      steps = omega (arith, a.steps, b.steps);
      more = omega (arith, a.more, b.more);
    }

module _ {S : Type 0} (good : S → List ℕ → List ℕ → Type 0) (budget : S → List ℕ → ℕ) (about : About S) (table : TableId) (old pass new : RingPass S)
    (progress : Progress) (turning : IsTurning old pass) (p : IsSeated good budget about table pass) (t : Stepped good budget pass new progress) where
  abbrev q : Process
  q = caller_now good budget about table pass p

  abbrev c : Caller
  c = pass.local.caller

  abbrev o : Outcome
  o = outcome good budget about table pass p new progress t

  pub turned : Turned p.knowledge.about.shape c c.stage t.word o
  turned =
      turned_at p.knowledge.about.shape c c.stage t.word turning.turn
      (subst (λ (a : About S). IsStage a.shape c c.stage) (sym p.told) p.moved.machine.stage)

  pub progress_is : progress ≡ o.progress
  progress_is = ap (λ (x : Outcome). x.progress) (made_is good budget about table pass p new progress t)

  pub caller_then : (x : Outcome) → o ≡ x → new.local.caller ≡ x.caller
  caller_then x is = ap (λ (y : Outcome). y.caller) (made_is good budget about table pass p new progress t ∙ is)

  -- while it is stamped, its attempt is the same
  pub same_attempt : new.local.caller.state ≡ state.Stamped → attempt_now new ≡ attempt_now pass
  same_attempt stamped =
      let here = after good budget about table pass p new progress t in
      let is : here.process.caller.state ≡ state.Stamped =
      ap (λ (d : Caller). d.state) (sym (caller_is good budget about table pass p new progress t)) ∙ stamped in
      ap attempt_of (new_now good budget about table pass p new progress t)
      ∙ ap (λ (d : Caller). attempt_of (process_with here.process d)) (caller_is good budget about table pass p new progress t)
      ∙ ap (λ (st : PassState). attempt_of (process_by st here.process here.process.caller)) is
      ∙ ((from good budget about table pass p new progress t).stamped is).same
      ∙ ap attempt_of (sym (now_is good budget about table pass p))

  pub later_on : IsLater (view_of old) (view_of new)
  later_on = later_then turning.still.later (later_after good budget about table pass p new progress t)

  pub still_stamped : new.local.caller.state ≡ state.Stamped → StillStamped (view_of old) (view_of new) (attempt_now old) (attempt_now new)
  still_stamped stamped = record { stamped = stamped; later = later_on; same = same_attempt stamped ∙ turning.still.same }

  going_then : (fewer : steps_of new.local < steps_of pass.local) → (loaded : List ℕ) (next : TurnStage) → o ≡ goes (record c { loaded = loaded }) (Turn next)
      → IsTurning old new
  going_then fewer loaded next is =
      let caller = caller_then (goes (record c { loaded = loaded }) (Turn next)) is in
      record {
        still = still_stamped (ap (λ (d : Caller). d.state) caller ∙ turning.still.stamped);
        stamp = ap (λ (d : Caller). d.stamp) caller ∙ turning.stamp;
        turn = subst (λ (d : Caller). IsTurn d.stage) (sym caller) tt;
        seals = t.seals ∙ turning.seals;
        steps = omega (arith, turning.steps, steps_after good budget about table pass p new progress t, fewer);
        more = omega (arith, turning.more, steps_after good budget about table pass p new progress t);
      }

  going_by : progress ≡ answer.Going → steps_of new.local < steps_of pass.local → Turned p.knowledge.about.shape c c.stage t.word o → IsTurning old new
  going_by is fewer (goes_on loaded next leads) = going_then fewer loaded next leads
  going_by is fewer (waits_for next entry some is_tag leads) =
      absurd (let e : answer.Later (Order entry t.word) ≡ answer.Going = sym (progress_is ∙ ap (λ (x : Outcome). x.progress) leads) ∙ is in cc)
  going_by is fewer (completes leads) =
      absurd (let e : answer.Completed c.stamp ≡ answer.Going = sym (progress_is ∙ ap (λ (x : Outcome). x.progress) leads) ∙ is in cc)

  pub turning_after : progress ≡ answer.Going → steps_of new.local < steps_of pass.local → IsTurning old new
  turning_after is fewer = going_by is fewer turned

  pub turn_answered : progress ≢ answer.Going → steps_of new.local < steps_of pass.local → TurnAnswered good budget about table old new progress
  turn_answered over fewer = record { last = pass; seated = p; turning = turning; step = t; fewer = fewer; over = over }
