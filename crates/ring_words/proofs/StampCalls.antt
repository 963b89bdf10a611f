-- A call of `try_stamp`, from the pass that it is given to the one that it leaves.
use Rattle.std.proofs.Common.{◌≡◌, ◌≢◌, ℕ, ◌<◌, ◌≤◌, ◌+◌, List, [], ◌∷◌, length, refl, sym, ◌∙◌, ap, subst, arith}
use Rattle.atomic_table.specs.Seated.{TableId}
use Rattle.tx_model.specs.declared.pass.PassState.TheVariants as state
use Rattle.tx_model.specs.declared.gate.Region.{Region}
use Rattle.tx_model.specs.Pass.{AreStamps, IsWhole}
use Rattle.tx_model.specs.declared.pass.Stop.TheVariants.{Met, Overrun}
use Rattle.ring_core.specs.declared.action.Later.TheVariants as reason
use Rattle.ring_core.specs.declared.action.Progress.{Progress}
use Rattle.ring_core.specs.declared.action.Progress.TheVariants as answer
use Rattle.ring_core.specs.declared.stage.Stage.TheVariants.{Check}
use Rattle.ring_core.specs.declared.stage.Purpose.TheVariants.{Stamp}
use Rattle.ring_core.specs.declared.stage.CheckStage.TheVariants.{Index}
use Rattle.ring_core.specs.Machine.{Machine, IsClosed, at_stage, steps_of}
use Rattle.ring_core.specs.Moves.{IsMoved}
use Rattle.ring_core.specs.Shape.{IsShape}
use Rattle.ring_core.specs.Laws as core_laws
use Rattle.ring_worlds.specs.Laws.{MoveKeeps}
use Rattle.ring_words.specs.declared.table.About.{About}
use Rattle.ring_words.specs.declared.pass.RingPass.{RingPass}
use Rattle.ring_words.specs.Sealings.{seals_of}
use Rattle.ring_words.specs.declared.stamp.Stamp.{Stamp as Answer}
use Rattle.ring_words.specs.Pass.{attempt_now, view_of, steps_made, IsSeated, IsPassOf}
use Rattle.ring_words.specs.Stamping.{IsAnswered, AnswersStamp, MeetsNobody}
use Rattle.ring_words.proofs.Knows.{pass_knows}
use Rattle.ring_words.proofs.StampAlone.{meets_nobody}
use Rattle.ring_words.proofs.PassMoves.{stamp_opened}
use Rattle.ring_words.proofs.StampAnswers.{Says}
use Rattle.ring_words.proofs.StampSaid.{said, counted, few}

pub some_written : {X : Type 0} (xs : List X) → xs ≢ [] → 0 < length xs
some_written [] written = absurd (written refl)
some_written (x ∷ xs) written = omega arith

module _ {S : Type 0} (good : S → List ℕ → List ℕ → Type 0) (budget : S → List ℕ → ℕ) (about : About S) (table : TableId) (pass : RingPass S)
    (p : IsSeated good budget about table pass) (closed : IsClosed pass.local) (active : pass.local.caller.state ≡ state.Active)
    (wrote : (attempt_now pass).writes ≢ []) (local : Machine) (is : local ≡ at_stage pass.local (Check Stamp Index)) where
  abbrev pub asking : RingPass S
  asking = record { local = local; seat = pass.seat; seals = pass.seals }

  abbrev before : Machine → RingPass S
  before m = record { local = m; seat = pass.seat; seals = pass.seals }

  wrote_some : 0 < length pass.local.caller.writes
  wrote_some = some_written pass.local.caller.writes wrote

  pub stamp_seated : core_laws.MoveKeeps → IsShape about.shape → MoveKeeps → IsMoved pass.local.shape pass.local.caller local.caller →
      IsSeated good budget about table asking
  stamp_seated law limits moves moved = stamp_opened good budget about table pass p active closed law limits moves wrote_some local is moved

  pub is_active : local.caller.state ≡ state.Active
  is_active = ap (λ (m : Machine). m.caller.state) is ∙ active

  wrote_now : (attempt_now asking).writes ≢ []
  wrote_now = subst (λ (m : Machine). (attempt_now (before m)).writes ≢ []) (sym is) wrote

  module _ (new : RingPass S) (progress : Progress) (a : IsAnswered good budget about table asking new progress) where
    -- the opening of the request changes nothing that an answer speaks of
    said_before : (progress : Progress) → Says about (before (at_stage pass.local (Check Stamp Index))) new progress → Says about pass new progress
    said_before (answer.Stamped number) said = said
    said_before (answer.Later (reason.Lost index)) said = said
    said_before (answer.Later (reason.Unpublished entry tag)) said = said
    said_before (answer.Later (reason.SlotBusy entry tag)) said = said
    said_before (answer.Later (reason.Order entry tag)) said = said
    said_before (answer.Stopped (Met entry)) said = said
    said_before (answer.Stopped (Overrun entry seen)) said = said
    said_before (answer.Worn index) said = said
    said_before answer.Going said = said
    said_before (answer.Started start) said = said
    said_before (answer.Value value) said = said
    said_before (answer.Completed number) said = said

    pub stamp_said : Says about pass new progress
    stamp_said =
        said_before progress (subst (λ (m : Machine). Says about (before m) new progress) is
        (said good budget about table asking new progress a wrote_now))

    pub stamp_counted : AreStamps (length (view_of pass).history) (view_of pass).mine → pass.seals ≡ seals_of (view_of pass).history (view_of pass).mine
        → new.seals ≡ seals_of (view_of new).history (view_of new).mine
    stamp_counted are was =
        subst (λ (m : Machine). AreStamps (length (view_of (before m)).history) (view_of (before m)).mine →
        pass.seals ≡ seals_of (view_of (before m)).history (view_of (before m)).mine → new.seals ≡ seals_of (view_of new).history (view_of new).mine) is
        (counted good budget about table asking new progress a) are was

    pub stamp_leaves : (allows : S → List Region → Type 0) → IsPassOf allows good budget about table pass → IsSeated good budget about table new →
        IsClosed new.local → IsPassOf allows good budget about table new
    stamp_leaves allows was seated is_closed =
        pass_knows allows good budget about table new was.is_made seated is_closed (stamp_counted was.is_pass.mine was.counted)

    -- the only pass meets nobody
    pub stamp_alone : (allows : S → List Region → Type 0) → 1 ≤ about.shape.ring → IsPassOf allows good budget about table pass →
        IsSeated good budget about table new → IsClosed new.local → IsWhole (view_of pass)
        → (result : Answer) → AnswersStamp about pass new result → MeetsNobody result
    stamp_alone allows some_entry was seated is_closed whole =
        meets_nobody good budget about some_entry pass new was.is_pass active (stamp_leaves allows was seated is_closed).is_pass whole

    pub stamp_few : (most : ℕ) → steps_of local ≤ most → steps_made new ≤ steps_made pass + most
    stamp_few most bound = omega (arith, few good budget about table asking new progress a, bound)
