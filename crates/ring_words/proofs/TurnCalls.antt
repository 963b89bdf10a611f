-- A turn of a pass: it is opened, and answered.
use Rattle.std.proofs.Common.{◌≡◌, ◌≢◌, ℕ, ◌+◌, ◌*◌, ◌<◌, ◌≤◌, true, false, List, length, refl, sym, ◌∙◌, ap, subst, arith}
use Rattle.atomic_table.specs.Seated.{TableId}
use Rattle.tx_model.specs.declared.pass.PassState.TheVariants as state
use Rattle.tx_model.specs.Pass.{AreStamps, IsWhole}
use Rattle.ring_core.specs.declared.shape.Shape.{Shape}
use Rattle.ring_core.specs.declared.caller.Caller.{Caller}
use Rattle.ring_core.specs.declared.action.Later.{Later}
use Rattle.ring_core.specs.declared.action.Progress.{Progress}
use Rattle.ring_core.specs.declared.action.Progress.TheVariants as answer
use Rattle.ring_core.specs.declared.stage.Stage.{Stage}
use Rattle.ring_core.specs.declared.stage.Stage.TheVariants.{Closed, BeginIndex, BeginTag, ReadHeap, Check, StampSlot, StampSwap, Turn, Between}
use Rattle.ring_core.specs.Machine.{Machine, IsClosed, at_stage, resumed, steps_of, most_turn_steps}
use Rattle.ring_core.specs.Moves.{IsMoved}
use Rattle.ring_core.specs.Request.{is_open}
use Rattle.ring_core.specs.Shape.{IsShape}
use Rattle.ring_core.specs.Sound.{IsStage}
use Rattle.ring_core.specs.Laws as core_laws
use Rattle.ring_worlds.specs.declared.process.Process.{Process}
use Rattle.ring_worlds.specs.Moves.{turns}
use Rattle.ring_worlds.specs.Laws.{MoveKeeps}
use Rattle.ring_words.specs.declared.table.About.{About}
use Rattle.ring_words.specs.declared.pass.RingPass.{RingPass}
use Rattle.ring_words.specs.Sealings.{seals_of}
use Rattle.ring_words.specs.Ring.{Given, given_of, made_of}
use Rattle.ring_words.specs.Pass.{HasMoved, process_with, IsSeated, view_of, attempt_now, steps_made}
use Rattle.ring_words.specs.Turns.{IsTurn, Finished, StillStamped, IsOrder, TurnAnswered}
use Rattle.ring_words.proofs.Moves.{may_more}
use Rattle.ring_words.proofs.PassMoves.{seated_moved, sound_after}
use Rattle.ring_words.proofs.TurnAnswers.{finished, waiting, turn_alone, turn_only, turn_counted, turn_few, turn_rose}

-- a stamped caller between two turns goes on with one
resumed_turn : (shape : Shape) (c : Caller) (stage : Stage) → IsStage shape c stage → c.state ≡ state.Stamped → is_open stage ≡ false → IsTurn (resumed stage)
resumed_turn shape c Closed at stamped closed = absurd (at stamped)
resumed_turn shape c BeginIndex at stamped closed = absurd cc
resumed_turn shape c (BeginTag top entry) at stamped closed = absurd cc
resumed_turn shape c (ReadHeap addr) at stamped closed = absurd cc
resumed_turn shape c (Check why inner) at stamped closed = absurd cc
resumed_turn shape c (StampSlot top) at stamped closed = absurd cc
resumed_turn shape c (StampSwap top) at stamped closed = absurd cc
resumed_turn shape c (Turn inner) at stamped closed = tt
resumed_turn shape c (Between inner) at stamped closed = tt

few_of : (steps now before most : ℕ) → steps ≤ most → now ≤ before + steps → now ≤ before + most
few_of steps now before most fits few = omega (arith, fits, few)

module _ {S : Type 0} (good : S → List ℕ → List ℕ → Type 0) (budget : S → List ℕ → ℕ) (about : About S) (table : TableId) (pass : RingPass S)
    (p : IsSeated good budget about table pass) (closed : IsClosed pass.local) (stamped : pass.local.caller.state ≡ state.Stamped)
    (law : core_laws.MoveKeeps) (limits : IsShape about.shape) (moves : MoveKeeps) (local : Machine)
    (is : local ≡ at_stage pass.local (resumed pass.local.caller.stage)) (moved : IsMoved pass.local.shape pass.local.caller local.caller) where
  abbrev given : Given
  given = given_of about

  abbrev c : Caller
  c = pass.local.caller

  abbrev turned : Caller
  turned = record c { stage = resumed c.stage }

  abbrev q : Process
  q = process_with p.knowledge.process c

  abbrev asking : RingPass S
  asking = record { local = local; seat = pass.seat; seals = pass.seals }

  abbrev before : Machine → RingPass S
  before m = record { local = m; seat = pass.seat; seals = pass.seals }

  pub turn_seated : IsSeated good budget about table asking
  turn_seated =
      seated_moved good budget about table pass p local (ap (λ (m : Machine). m.shape) is)
      (subst (λ (m : Machine). HasMoved given p.knowledge.process (process_with p.knowledge.process m.caller)) (sym is)
      (record {
        may = may_more moves given p.knowledge.process q (process_with p.knowledge.process turned) p.moved.may (turns stamped closed refl);
        machine = ap_machine (sound_after good budget about table pass p law limits local.caller moved);
        stays = p.moved.stays;
        stamped = λ e. let kept = p.moved.stamped e in record { was = kept.was; stamp = kept.stamp; same = kept.same };
        active = p.moved.active;
        start = p.moved.start;
        follows = p.moved.follows;
      }))
    where
      ap_machine : Rattle.ring_core.specs.Sound.IsSound about.shape local.caller → Rattle.ring_core.specs.Sound.IsSound about.shape turned
      ap_machine = subst (λ (m : Machine). Rattle.ring_core.specs.Sound.IsSound about.shape m.caller) is

  pub turn_asks : IsTurn local.caller.stage
  turn_asks =
      subst (λ (m : Machine). IsTurn m.caller.stage) (sym is) (resumed_turn about.shape c c.stage p.moved.machine.stage stamped closed)

  pub turn_stamped : local.caller.state ≡ state.Stamped
  turn_stamped = ap (λ (m : Machine). m.caller.state) is ∙ stamped

  module _ (new : RingPass S) (progress : Progress) (a : TurnAnswered good budget about table asking new progress) where
    pub turned_counted : AreStamps (length (view_of pass).history) (view_of pass).mine → pass.seals ≡ seals_of (view_of pass).history (view_of pass).mine →
        new.seals ≡ seals_of (view_of new).history (view_of new).mine
    turned_counted are counted = turn_counted good budget about table asking new progress a are counted

    pub turned_finished : (stamp : ℕ) → progress ≡ answer.Completed stamp
        → Finished (made_of about).opening (view_of pass) (view_of new) (attempt_now pass) (record { stamp = stamp; wrote = true })
    turned_finished stamp e =
        subst (λ (m : Machine). Finished (made_of about).opening (view_of (before m)) (view_of new) (attempt_now (before m))
        (record { stamp = stamp; wrote = true })) is (finished good budget about table asking new progress a stamp e)

    pub turned_waiting : (later : Later) → progress ≡ answer.Later later
        → StillStamped (view_of pass) (view_of new) (attempt_now pass) (attempt_now new) × IsOrder new later
    turned_waiting later e =
        subst (λ (m : Machine). StillStamped (view_of (before m)) (view_of new) (attempt_now (before m)) (attempt_now new) ×
        IsOrder new later) is (waiting good budget about table asking new progress a later e)

    pub turned_alone : IsWhole (view_of pass) → (later : Later) → progress ≡ answer.Later later → ⊥
    turned_alone whole = turn_alone good budget about table asking new progress a whole

    pub turned_only : ((stamp : ℕ) → progress ≢ answer.Completed stamp) → ((later : Later) → progress ≢ answer.Later later) → ⊥
    turned_only = turn_only good budget about table asking new progress a

    pub turned_few : steps_of local ≤ most_turn_steps pass.local
        → steps_made new ≤ steps_made pass
        + (about.shape.ring * (about.shape.sig_words + 2) + about.shape.sig_words + length (attempt_now pass).writes + 4)
    turned_few fits =
        subst (λ (s : Shape). steps_made new ≤ steps_made pass + (s.ring * (s.sig_words + 2) + s.sig_words + length c.writes + 4)) p.shaped
        (few_of (steps_of local) (steps_made new) (steps_made pass) (most_turn_steps pass.local) fits (turn_few good budget about table asking new progress a))

    pub turned_rose : steps_made pass < steps_made new
    turned_rose = turn_rose good budget about table asking new progress a
