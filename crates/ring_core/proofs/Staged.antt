-- A caller at another stage.
use Rattle.std.proofs.Common.{◌≡◌, ℕ, false, refl, sym, ◌∙◌}
use Rattle.tx_model.specs.declared.pass.PassState.TheVariants as state
use Rattle.ring_sig.specs.Signature.{place_of, bits_of}
use Rattle.ring_core.specs.declared.shape.Shape.{Shape}
use Rattle.ring_core.specs.declared.caller.Caller.{Caller}
use Rattle.ring_core.specs.declared.stage.Stage.{Stage}
use Rattle.ring_core.specs.declared.stage.Stage.TheVariants.{Closed, BeginIndex, BeginTag, ReadHeap, Check, StampSlot, StampSwap, Turn, Between}
use Rattle.ring_core.specs.declared.stage.TurnStage.{TurnStage}
use Rattle.ring_core.specs.declared.stage.TurnStage.TheVariants.{Filling, Signature, Writing, Earlier, EarlierWords, EarlierAgain, Heap, Before, Complete}
use Rattle.ring_core.specs.Request.{is_open, turn_action}
use Rattle.ring_core.specs.Outcomes.{read_at}
use Rattle.ring_core.specs.Sound.{IsSound, IsStage, IsTurnStage}
use Rattle.ring_core.proofs.WritesLemmas.{with_place-size}

module _ (shape : Shape) (c : Caller) where
  -- what a turn does, and where it may be, is not told by the stage of its caller
  pub same_action : (stage : Stage) (at : TurnStage) → turn_action shape c at ≡ turn_action shape (record c { stage = stage }) at
  same_action stage Filling = refl
  same_action stage (Signature word) = refl
  same_action stage Writing = refl
  same_action stage (Earlier at) = refl
  same_action stage (EarlierWords at word) = refl
  same_action stage (EarlierAgain at) = refl
  same_action stage (Heap index) = refl
  same_action stage Before = refl
  same_action stage Complete = refl

  pub same_stage : (stage : Stage) (at : TurnStage) → IsTurnStage shape (record c { stage = stage }) at → IsTurnStage shape c at
  same_stage stage Filling at = at
  same_stage stage (Signature word) at = at
  same_stage stage Writing at = at
  same_stage stage (Earlier at) within = within
  same_stage stage (EarlierWords at word) within = within
  same_stage stage (EarlierAgain at) within = within
  same_stage stage (Heap index) at = at
  same_stage stage Before at = at
  same_stage stage Complete at = at

  -- a caller with no request open has one more address among its reads
  closed_stage : (addr : ℕ) (stage : Stage) → c.state ≡ state.Active → is_open stage ≡ false → IsStage shape c stage → IsStage shape (read_at c addr) stage
  closed_stage addr Closed active closed staged = staged
  closed_stage addr (Between at) active closed staged = absurd (let e = sym active ∙ staged.0.stamped in cc)
  closed_stage addr BeginIndex active closed staged = absurd (let e = closed in cc)
  closed_stage addr (BeginTag top at) active closed staged = absurd (let e = closed in cc)
  closed_stage addr (ReadHeap at) active closed staged = absurd (let e = closed in cc)
  closed_stage addr (Check purpose at) active closed staged = absurd (let e = closed in cc)
  closed_stage addr (StampSlot top) active closed staged = absurd (let e = closed in cc)
  closed_stage addr (StampSwap top) active closed staged = absurd (let e = closed in cc)
  closed_stage addr (Turn at) active closed staged = absurd (let e = closed in cc)

  pub read_keeps : (addr : ℕ) → c.state ≡ state.Active → is_open c.stage ≡ false → IsSound shape c → IsSound shape (read_at c addr)
  read_keeps addr active closed sound =
      record {
        sized = record {
          lived = sound.sized.lived;
          reads = with_place-size c.read_sig (place_of addr (bits_of c.read_sig)) ∙ sound.sized.reads;
          fits = sound.sized.fits;
          apart = sound.sized.apart;
          within = sound.sized.within;
          wrote = sound.sized.wrote;
          signed = sound.sized.signed;
          scratch = sound.sized.scratch;
        };
        idle = λ is. absurd (let e = sym active ∙ is in cc);
        unstamped = sound.unstamped;
        stage = closed_stage addr c.stage active closed sound.stage;
      }
