-- A pass at the table after its swap.
use Rattle.std.proofs.Common.{◌≡◌, ◌≢◌, ℕ, ◌+◌, false, eqb, List, Some, refl, sym, ◌∙◌, ap, subst}
use Rattle.atomic_table.specs.Seated.{TableId}
use Rattle.atomic_table.specs.Table.{Step, Allows}
use prog.Atomic.{either}
use Rattle.tx_model.specs.declared.pass.PassState.TheVariants as state
use Rattle.tx_model.specs.Attempt.{MayCommit}
use Rattle.ring_core.specs.declared.shape.Shape.{Shape}
use Rattle.ring_core.specs.declared.caller.Caller.{Caller}
use Rattle.ring_core.specs.declared.action.Progress.{Progress}
use Rattle.ring_core.specs.declared.action.Progress.TheVariants as answer
use Rattle.ring_core.specs.declared.stage.Stage.{Stage}
use Rattle.ring_core.specs.declared.stage.Stage.TheVariants.{StampSwap}
use Rattle.ring_core.specs.Outcomes.{Outcome, made, absorbed, outcome_at}
use Rattle.ring_core.specs.Request.{is_open}
use Rattle.ring_core.specs.Words.{CanAbsorb}
use Rattle.ring_worlds.specs.declared.process.Process.{Process}
use Rattle.ring_worlds.specs.World.{attempt_of}
use Rattle.ring_worlds.proofs.lemmas.Outcomes.{swaps}
use Rattle.ring_worlds.specs.Laws.{StepsKeep, MayAbsorb, StartStays, StepExists}
use Rattle.ring_words.specs.declared.table.About.{About}
use Rattle.ring_words.specs.declared.table.Knowledge.{Knowledge}
use Rattle.ring_words.specs.declared.pass.RingPass.{RingPass}
use Rattle.ring_words.specs.Known.{owned_known}
use Rattle.ring_words.specs.Ring.{given_of, made_of, process_of, IsRing}
use Rattle.ring_words.specs.Told.{Sat, IsKnown, Loaded, Won, WonFrom, Swapped, found_expected, found_other, Swaps, after_won}
use Rattle.ring_words.specs.Pass.{HasMoved, process_with, process_now, attempt_now, view_of, IsSeated, Stepped, Exchanged}
use Rattle.ring_words.proofs.Moves.{synced, loading_of}
use Rattle.ring_words.proofs.Swaps.{may_swap}
use Rattle.ring_words.proofs.Seated.{caller_now, now_is, none_noted, seated_after}

some_same : {X : Type 0} {x y : X} → Some x ≡ Some y → x ≡ y
some_same e = cc

active_free : state.Active ≢ state.Stamped
active_free e = cc

module _ {S : Type 0} (good : S → List ℕ → List ℕ → Type 0) (budget : S → List ℕ → ℕ) (about : About S) (table : TableId) (pass : RingPass S)
    (p : IsSeated good budget about table pass) where
  abbrev k : Knowledge S
  k = p.knowledge

  abbrev q : Process
  q = caller_now good budget about table pass p

  -- it may swap the index
  pub swap_allowed : (steps : StepsKeep) (absorbs : MayAbsorb) (stays : StartStays) (exists : StepExists) (moved : Process) → moved ≡ process_now pass →
      (top : ℕ) → pass.local.caller.stage ≡ StampSwap top → pass.local.caller.state ≡ state.Active
      → MayCommit (good (made_of about).sense (made_of about).opening) (budget (made_of about).sense) (attempt_now pass) (view_of pass).owned
      → (slots : ℕ) (st : Step ℕ) → st.first ≡ top
      → Allows (IsRing good budget about) slots pass.seat.id pass.seat.me 0 (λ n. either (eqb n top) (top + 1) n) (Swaps good budget moved st pass.seat.me)
  swap_allowed steps absorbs stays exists moved is top at active may slots st expects =
      subst (λ x. Allows (IsRing good budget about) slots pass.seat.id pass.seat.me 0 (λ n. either (eqb n top) (top + 1) n)
      (Swaps good budget x st pass.seat.me)) (sym (is ∙ now_is good budget about table pass p))
      (may_swap steps absorbs stays exists good budget about slots pass.seat.id pass.seat.me k q top st p.known p.no_slot p.told
      (record {
        loading = loading_of (given_of about) k.history k.process pass.local.caller
            (subst (λ (a : About S). IsKnown (given_of a) k.history k.process) p.told p.knows.process_is) p.knows.plain.reached p.moved;
        at = at;
        free = λ stamped. active_free (sym active ∙ stamped);
        unowned = p.unowned;
        may = subst (λ known. MayCommit (good (made_of about).sense (made_of about).opening) (budget (made_of about).sense)
            (attempt_of (process_with (process_of pass.local.shape known) pass.local.caller)) (process_of pass.local.shape known).owned) p.known
            (subst (λ owned. MayCommit (good (made_of about).sense (made_of about).opening) (budget (made_of about).sense) (attempt_now pass) owned)
            owned_is may);
      }) expects)
    where
      owned_is : (view_of pass).owned ≡ (process_of pass.local.shape pass.seat.me.0).owned
      owned_is = ap (λ known. owned_known known) p.known ∙
          ap (λ known. (process_of pass.local.shape known).owned) (sym p.known)

  module _ (new : RingPass S) (progress : Progress) (x : Exchanged good budget pass new progress) where
    -- where it found another index it is a step as each other
    abbrev pub as_step : Loaded good budget (process_now pass) x.word pass.seat.me new.seat.me → Stepped good budget pass new progress
    as_step seat = record { word = x.word; seat = seat; outcome = x.outcome; same_table = x.same_table; shape = x.shape; seals = x.seals }

    -- ---- it found the index expected
    module _ (v : Won good budget (process_now pass) x.word pass.seat.me new.seat.me) where
      same : v.old ≡ k
      same = some_same (sym v.before ∙ p.known)

      pub from : WonFrom good budget k q x.word new.seat.me
      from =
          subst (λ c. WonFrom good budget k c x.word new.seat.me) (now_is good budget about table pass p)
          (subst (λ m. WonFrom good budget m (process_now pass) x.word new.seat.me) same v.step)

      abbrev pub after : Knowledge S
      after = after_won k q x.word from.history

      abbrev pub outcome : Outcome
      outcome = absorbed k.about.shape pass.local.caller x.word

      pub made_is : made new.local.caller progress ≡ outcome
      made_is = x.outcome ∙ ap (λ (s : Shape). absorbed s pass.local.caller x.word) (p.shaped ∙ sym (ap (λ (a : About S). a.shape) p.told))

      pub caller_is : new.local.caller ≡ after.process.caller
      caller_is = ap (λ (o : Outcome). o.caller) made_is

      pub new_now : process_now new ≡ process_with after.process new.local.caller
      new_now = ap (λ known. process_with (process_of new.local.shape known) new.local.caller) from.now

      pub seated_won : IsSeated good budget about table new
      seated_won =
          record {
            at_table = x.same_table ∙ p.at_table;
            no_slot = v.slots ∙ p.no_slot;
            shaped = x.shape ∙ p.shaped;
            knowledge = after;
            known = from.now;
            told = p.told;
            settled = refl;
            knows = from.knows;
            moved = subst (λ (a : About S). HasMoved (given_of a) after.process (process_with after.process new.local.caller)) p.told
                (subst (λ (c : Caller). HasMoved (given_of k.about) after.process (process_with after.process c)) (sym caller_is)
                (synced (given_of k.about) after.history after.process from.knows.process_is from.knows.plain.rested));
            unowned = from.owned ∙ p.unowned;
            unsealed = none_noted k.process.sealed outcome.progress pass.local.caller.state p.unsealed;
          }

  -- ---- either way
  pub swap_can : (index word : ℕ) (me : Sat S) → Swapped good budget (process_now pass) index word pass.seat.me me
      → CanAbsorb pass.local.shape pass.local.caller word
  swap_can index word me (found_expected is v) = shaped v.old v.before v.step.can
    where
      shaped : (o : Knowledge S) → pass.seat.me.0 ≡ Some o → CanAbsorb o.about.shape pass.local.caller word → CanAbsorb pass.local.shape pass.local.caller word
      shaped o before can =
          subst (λ (s : Shape). CanAbsorb s pass.local.caller word)
          (ap (λ (m : Knowledge S). m.about.shape) (some_same (sym before ∙ p.known)) ∙ ap (λ (a : About S). a.shape) p.told ∙ sym p.shaped) can
  swap_can index word me (found_other is l) = shaped l.old l.before l.step.can
    where
      shaped : (o : Knowledge S) → pass.seat.me.0 ≡ Some o → CanAbsorb o.about.shape pass.local.caller word → CanAbsorb pass.local.shape pass.local.caller word
      shaped o before can =
          subst (λ (s : Shape). CanAbsorb s pass.local.caller word)
          (ap (λ (m : Knowledge S). m.about.shape) (some_same (sym before ∙ p.known)) ∙ ap (λ (a : About S). a.shape) p.told ∙ sym p.shaped) can

  pub swap_seated : (new : RingPass S) (progress : Progress) → Exchanged good budget pass new progress → IsSeated good budget about table new
  swap_seated new progress x = by_seat x.seat
    where
      by_seat : Swapped good budget (process_now pass) x.from x.word pass.seat.me new.seat.me → IsSeated good budget about table new
      by_seat (found_expected is v) = seated_won new progress x v
      by_seat (found_other other l) = seated_after good budget about table pass p new progress (as_step new progress x l)

-- no request is open after a swap
pub swap_closed : (shape : Shape) (c d : Caller) (progress : Progress) (from word : ℕ) → c.stage ≡ StampSwap from
    → made d progress ≡ absorbed shape c word → is_open d.stage ≡ false
swap_closed shape c d progress from word at is =
    ap (λ (o : Outcome). is_open o.caller.stage) (is ∙ ap (λ (s : Stage). outcome_at shape c s word) at)
    ∙ swaps shape c (λ o. is_open o.caller.stage ≡ false) from word (λ won. refl) (λ lost. refl)

-- and it was answered
pub swap_over : (shape : Shape) (c d : Caller) (progress : Progress) (from word : ℕ) → c.stage ≡ StampSwap from
    → made d progress ≡ absorbed shape c word → progress ≢ answer.Going
swap_over shape c d progress from word at is goes =
    swaps shape c (λ o. o.progress ≢ answer.Going) from word (λ won e. cc) (λ lost e. cc)
    (sym (ap (λ (o : Outcome). o.progress) (is ∙ ap (λ (s : Stage). outcome_at shape c s word) at)) ∙ goes)
