-- A pass at the table before and after one step.
use Rattle.std.proofs.Common.{◌≡◌, ℕ, ◌+◌, List, [], Some, refl, sym, ◌∙◌, ap, subst}
use Rattle.atomic_table.specs.Seated.{TableId}
use Rattle.atomic_table.specs.Table.{Step, Allows}
use Rattle.tx_model.specs.declared.pass.PassState.{PassState}
use Rattle.tx_model.specs.declared.pass.PassState.TheVariants as state
use Rattle.tx_model.specs.Calls.{IsLater}
use Rattle.ring_core.specs.declared.shape.Shape.{Shape}
use Rattle.ring_core.specs.declared.caller.Caller.{Caller}
use Rattle.ring_core.specs.declared.action.Progress.{Progress}
use Rattle.ring_core.specs.declared.action.Progress.TheVariants as answer
use Rattle.ring_core.specs.Request.{next_action}
use Rattle.ring_core.specs.Outcomes.{Outcome, made, absorbed}
use Rattle.ring_worlds.specs.declared.process.Process.{Process}
use Rattle.ring_worlds.specs.Laws.{StepsKeep, MayAbsorb, StartStays, StepExists}
use Rattle.ring_words.specs.declared.table.About.{About}
use Rattle.ring_words.specs.declared.table.Knowledge.{Knowledge}
use Rattle.ring_words.specs.declared.pass.RingPass.{RingPass}
use Rattle.ring_words.specs.Ring.{given_of, process_of, IsRing}
use Rattle.ring_words.specs.Told.{IsKnown, LoadedFrom, Loads, after_step}
use Rattle.ring_words.specs.Layout.{index_at, IsLoad}
use Rattle.ring_worlds.specs.World.{noted_after}
use Rattle.ring_words.specs.Pass.{HasMoved, noted_in, process_with, process_now, view_of, view_known, steps_made, IsSeated, Stepped}
use Rattle.ring_words.proofs.Loads.{may_load}
use Rattle.ring_words.proofs.Moves.{synced, loading_of}

some_same : {X : Type 0} {x y : X} → Some x ≡ Some y → x ≡ y
some_same e = cc

-- a step seals nothing
nothing_in : {X : Type 0} (st : PassState) → noted_in {X = X} st [] ≡ []
nothing_in state.Idle = refl
nothing_in state.Active = refl
nothing_in state.Stamped = refl

nothing_after : {X : Type 0} (progress : Progress) → noted_after {X = X} [] progress ≡ []
nothing_after answer.Going = refl
nothing_after (answer.Started start) = refl
nothing_after (answer.Value value) = refl
nothing_after (answer.Stopped stop) = refl
nothing_after (answer.Stamped stamp) = refl
nothing_after (answer.Later later) = refl
nothing_after (answer.Completed stamp) = refl
nothing_after (answer.Worn index) = refl

pub none_noted : {X : Type 0} (noted : List X) (progress : Progress) (st : PassState) → noted ≡ [] → noted_after (noted_in st noted) progress ≡ []
none_noted noted progress st none =
    ap (λ l. noted_after (noted_in st l) progress) none ∙ ap (λ l. noted_after l progress) (nothing_in st) ∙ nothing_after progress

module _ {S : Type 0} (good : S → List ℕ → List ℕ → Type 0) (budget : S → List ℕ → ℕ) (about : About S) (table : TableId) (pass : RingPass S)
    (p : IsSeated good budget about table pass) where
  -- its caller, with what its seat knows
  abbrev pub caller_now : Process
  caller_now = process_with p.knowledge.process pass.local.caller

  pub now_is : process_now pass ≡ caller_now
  now_is = ap (λ known. process_with (process_of pass.local.shape known) pass.local.caller) p.known

  -- it may load the word that its machine names
  pub load_allowed : (steps : StepsKeep) (absorbs : MayAbsorb) (stays : StartStays) (exists : StepExists) (q : Process) → q ≡ process_now pass →
      IsLoad (next_action pass.local.shape pass.local.caller)
      → (slots index : ℕ) → index ≡ index_at pass.local.shape (next_action pass.local.shape pass.local.caller) → (st : Step ℕ)
      → Allows (IsRing good budget about) slots pass.seat.id pass.seat.me index (λ n. n) (Loads good budget q st pass.seat.me)
  load_allowed steps absorbs stays exists q is loads slots index at st =
      subst (λ q. Allows (IsRing good budget about) slots pass.seat.id pass.seat.me index (λ n. n) (Loads good budget q st pass.seat.me)) (sym (is ∙ now_is))
      (subst (λ n. Allows (IsRing good budget about) slots pass.seat.id pass.seat.me n (λ n. n) (Loads good budget caller_now st pass.seat.me))
      (sym (at ∙ ap (λ (s : Shape). index_at s (next_action s pass.local.caller)) p.shaped))
      (may_load steps absorbs stays exists good budget about slots pass.seat.id pass.seat.me p.knowledge caller_now st p.known p.no_slot p.told
      (loading_of (given_of about) p.knowledge.history p.knowledge.process pass.local.caller
      (subst (λ (a : About S). IsKnown (given_of a) p.knowledge.history p.knowledge.process) p.told p.knows.process_is) p.knows.plain.reached p.moved)
      (subst (λ (s : Shape). IsLoad (next_action s pass.local.caller)) p.shaped loads)))

  -- ---- a step of it
  module _ (new : RingPass S) (progress : Progress) (t : Stepped good budget pass new progress) where
    same : t.seat.old ≡ p.knowledge
    same = some_same (sym t.seat.before ∙ p.known)

    pub from : LoadedFrom good budget p.knowledge caller_now t.word new.seat.me
    from =
        subst (λ q. LoadedFrom good budget p.knowledge q t.word new.seat.me) now_is
        (subst (λ k. LoadedFrom good budget k (process_now pass) t.word new.seat.me) same t.seat.step)

    abbrev pub after : Knowledge S
    after = after_step p.knowledge caller_now t.word from.history

    abbrev pub outcome : Outcome
    outcome = absorbed p.knowledge.about.shape pass.local.caller t.word

    -- its machine is as its seat knows it
    pub made_is : made new.local.caller progress ≡ outcome
    made_is = t.outcome ∙ ap (λ (s : Shape). absorbed s pass.local.caller t.word) (p.shaped ∙ sym (ap (λ (a : About S). a.shape) p.told))

    pub caller_is : new.local.caller ≡ after.process.caller
    caller_is = ap (λ (o : Outcome). o.caller) made_is

    pub new_now : process_now new ≡ process_with after.process new.local.caller
    new_now = ap (λ known. process_with (process_of new.local.shape known) new.local.caller) from.now

    pub seated_after : IsSeated good budget about table new
    seated_after =
        record {
          at_table = t.same_table ∙ p.at_table;
          no_slot = t.seat.slots ∙ p.no_slot;
          shaped = t.shape ∙ p.shaped;
          knowledge = after;
          known = from.now;
          told = p.told;
          settled = refl;
          knows = from.knows;
          moved = subst (λ (a : About S). HasMoved (given_of a) after.process (process_with after.process new.local.caller)) p.told
              (subst (λ (c : Caller). HasMoved (given_of p.knowledge.about) after.process (process_with after.process c)) (sym caller_is)
              (synced (given_of p.knowledge.about) from.history after.process from.knows.process_is from.knows.plain.rested));
          unowned = from.owned ∙ p.unowned;
          unsealed = none_noted p.knowledge.process.sealed outcome.progress pass.local.caller.state p.unsealed;
        }

    -- it has what it had, and knows no less
    pub later_after : IsLater (view_of pass) (view_of new)
    later_after =
        subst (λ known. IsLater (view_known pass.local.caller.state known) (view_of new)) (sym p.known)
        (subst (λ known. IsLater (view_known pass.local.caller.state (Some p.knowledge)) (view_known new.local.caller.state known)) (sym from.now)
        (record { history = from.longer; front = from.front; mine = refl; owned = from.owned; share = refl }))

    pub steps_after : steps_made new ≡ steps_made pass + 1
    steps_after = ap (λ known. Rattle.ring_words.specs.Pass.steps_known known) from.now ∙
        ap (λ known. Rattle.ring_words.specs.Pass.steps_known known + 1) (sym p.known)
