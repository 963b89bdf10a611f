-- What a caller may do between two steps, with no step of its own.
use Rattle.std.specs.Prelude.{◌≡◌, ℕ, ◌<◌, length, false}
use Rattle.tx_model.specs.declared.pass.PassState.TheVariants as state
use Rattle.tx_model.specs.Words.{HasAddress}
use Rattle.ring_core.specs.declared.shape.Shape.{Shape}
use Rattle.ring_core.specs.declared.caller.Caller.{Caller}
use Rattle.ring_core.specs.declared.stage.Stage.TheVariants.{BeginIndex, ReadHeap, Check}
use Rattle.ring_core.specs.declared.stage.Purpose.TheVariants.{Stamp}
use Rattle.ring_core.specs.declared.stage.CheckStage.TheVariants.{Index}
use Rattle.ring_core.specs.Request.{is_open}
use Rattle.ring_core.specs.Outcomes.{idle}
use Rattle.ring_core.specs.Machine.{resumed, written, IsFull}

-- an attempt with no request open
pub record IsAtRest (c : Caller) : Type 0 where
  pub active : c.state ≡ state.Active
  pub closed : is_open c.stage ≡ false

-- one move, by the call that makes it
pub data IsMoved (shape : Shape) (c d : Caller) : Type 0 where
  -- `start_begin`
  opens_begin : c.state ≡ state.Idle → is_open c.stage ≡ false → d ≡ record c { stage = BeginIndex } → IsMoved shape c d
  -- `start_read` of an address that isn't among the writes
  opens_read : (addr : ℕ) → IsAtRest c → addr < shape.heap → (HasAddress c.writes addr → ⊥) → d ≡ record c { stage = ReadHeap addr } → IsMoved shape c d
  -- `put_write`, where it isn't the 257th address
  puts_write : (addr value : ℕ) → IsAtRest c → addr < shape.heap → (IsFull c addr → ⊥) → d ≡ written c addr value → IsMoved shape c d
  -- `start_stamp`
  opens_stamp : IsAtRest c → 0 < length c.writes → d ≡ record c { stage = Check Stamp Index } → IsMoved shape c d
  -- `start_turn`
  opens_turn : c.state ≡ state.Stamped → is_open c.stage ≡ false → d ≡ record c { stage = resumed c.stage } → IsMoved shape c d
  -- `finish_read_only` and `give_up`
  ends_attempt : IsAtRest c → d ≡ idle shape c → IsMoved shape c d
