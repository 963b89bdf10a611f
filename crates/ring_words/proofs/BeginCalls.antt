-- A beginning of a pass.
use Rattle.std.proofs.Common.{◌≡◌, ℕ, ◌+◌, ◌≤◌, List, length, refl, ap, arith}
use Rattle.atomic_table.specs.Seated.{TableId}
use Rattle.tx_model.specs.declared.pass.PassState.TheVariants as state
use Rattle.tx_model.specs.Pass.{AreStamps}
use Rattle.tx_model.specs.Calls.{Began}
use Rattle.ring_core.specs.declared.shape.Shape.{Shape}
use Rattle.ring_core.specs.declared.action.Progress.{Progress}
use Rattle.ring_core.specs.declared.stage.Stage.TheVariants.{BeginIndex}
use Rattle.ring_core.specs.Machine.{IsClosed}
use Rattle.ring_core.specs.Moves.{opens_begin}
use Rattle.ring_core.specs.Shape.{IsShape}
use Rattle.ring_core.specs.Laws as core_laws
use Rattle.ring_worlds.specs.Laws.{BecomeKeeps}
use Rattle.ring_words.specs.declared.table.About.{About}
use Rattle.ring_words.specs.declared.pass.RingPass.{RingPass}
use Rattle.ring_words.specs.Sealings.{seals_of}
use Rattle.ring_words.specs.Pass.{IsSeated, view_of, attempt_now, steps_made, staged}
use Rattle.ring_words.specs.Requests.{Answered}
use Rattle.ring_words.proofs.PassMoves.{begin_opened}
use Rattle.ring_words.proofs.Answers.{begun, counted_on, few}

module _ {S : Type 0} (good : S → List ℕ → List ℕ → Type 0) (budget : S → List ℕ → ℕ) (about : About S) (table : TableId) (pass : RingPass S)
    (p : IsSeated good budget about table pass) (closed : IsClosed pass.local) (law : core_laws.MoveKeeps) (limits : IsShape about.shape)
    (becomes : BecomeKeeps) (idle : pass.local.caller.state ≡ state.Idle) where
  abbrev asking : RingPass S
  asking = staged pass BeginIndex

  pub begin_seated : IsSeated good budget about table asking
  begin_seated = begin_opened good budget about table pass p law limits becomes idle asking.local refl (opens_begin idle closed refl)

  module _ (new : RingPass S) (progress : Progress) (a : Answered good budget about table asking new progress) where
    pub begin_counted : AreStamps (length (view_of pass).history) (view_of pass).mine →
        pass.seals ≡ seals_of (view_of pass).history (view_of pass).mine → new.seals ≡ seals_of (view_of new).history (view_of new).mine
    begin_counted are counted = counted_on good budget about table asking new progress begin_seated a tt pass.local.caller.state are counted

    pub begin_few : steps_made new ≤ steps_made pass + (about.shape.ring + 1)
    begin_few =
        let most : steps_made new ≤ steps_made pass + (1 + pass.local.shape.ring) = few good budget about table asking new progress begin_seated a tt in
        omega (arith, most, ap (λ (s : Shape). s.ring) p.shaped)

    pub begin_began : Began (view_of pass) (view_of new) (attempt_now new)
    begin_began = begun good budget about table asking new progress begin_seated a tt idle refl pass.local.caller.state
