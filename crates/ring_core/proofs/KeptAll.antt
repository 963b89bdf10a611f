-- Every step keeps what holds of a caller, and leaves fewer steps.
use Rattle.std.proofs.Common.{ℕ, ◌∙◌, arith}
use Rattle.ring_core.specs.declared.shape.Shape.{Shape}
use Rattle.ring_core.specs.declared.caller.Caller.{Caller}
use Rattle.ring_core.specs.declared.stage.Stage.{Stage}
use Rattle.ring_core.specs.declared.stage.Stage.TheVariants.{Closed, BeginIndex, BeginTag, ReadHeap, Check, StampSlot, StampSwap, Turn, Between}
use Rattle.ring_core.specs.Shape.{IsShape}
use Rattle.ring_core.specs.Outcomes.{outcome_at, absorbed}
use Rattle.ring_core.specs.Steps.{steps_left, steps_at}
use Rattle.ring_core.specs.Sound.{IsSound, IsStage}
use Rattle.ring_core.specs.Words.{IsWordAt, CanAbsorb}
use Rattle.ring_core.proofs.Kept.{Keeps, IsSteady, steady_of, begin_from_keeps, begin_tag_keeps}
use Rattle.ring_core.proofs.KeptCheck.{read_heap_keeps, check_after_keeps, stamp_slot_keeps, stamp_swap_keeps}
use Rattle.ring_core.proofs.WritesLemmas.{with_place-size}
use Rattle.ring_core.proofs.KeptTurn.{turn_after_keeps}

module _ (shape : Shape) (good : IsShape shape) (c : Caller) (steady : IsSteady shape c) where
  at_stage : (stage : Stage) (word : ℕ) → IsStage shape c stage → IsWordAt shape c stage word
      → Keeps shape (steps_at shape c stage) (outcome_at shape c stage word)
  at_stage Closed word staged fits = absurd fits
  at_stage BeginIndex index staged fits = begin_from_keeps shape good c index index _ steady staged fits (omega arith) (omega arith)
  at_stage (BeginTag top at) tag staged fits = begin_tag_keeps shape good c top at tag steady staged
  at_stage (ReadHeap addr) value staged fits = read_heap_keeps shape good c steady staged.0 addr value (with_place-size c.read_sig _ ∙ steady.sized.reads)
  at_stage (Check purpose stage) word staged fits = check_after_keeps shape good c steady staged.0 purpose stage word staged.1 staged.2 fits
  at_stage (StampSlot top) tag staged fits = stamp_slot_keeps shape good c steady top staged tag
  at_stage (StampSwap top) found staged fits = stamp_swap_keeps shape good c steady top staged found
  at_stage (Turn stage) word staged fits = turn_after_keeps shape good c steady staged.0 stage word staged.1
  at_stage (Between stage) word staged fits = absurd fits

-- the caller after a step is sound, and has fewer steps left
pub absorbed_keeps : (shape : Shape) → IsShape shape → (c : Caller) → IsSound shape c → (word : ℕ) → CanAbsorb shape c word
    → Keeps shape (steps_left shape c) (absorbed shape c word)
absorbed_keeps shape good c sound word fits = at_stage shape good c (steady_of shape c sound) c.stage word sound.stage fits
