-- laws of the definitions
use Rattle.std.specs.Prelude.{ℕ, ◌<◌}
use Rattle.ring_core.specs.declared.shape.Shape.{Shape}
use Rattle.ring_core.specs.declared.caller.Caller.{Caller}
use Rattle.ring_core.specs.Shape.{IsShape}
use Rattle.ring_core.specs.Sound.{IsSound}
use Rattle.ring_core.specs.Words.{CanAbsorb}
use Rattle.ring_core.specs.Steps.{steps_left}
use Rattle.ring_core.specs.Outcomes.{opening, absorbed}
use Rattle.ring_core.specs.Moves.{IsMoved}

-- what holds of a caller still holds after a step, which leaves it fewer
abbrev pub StepKeeps : Type 0
StepKeeps =
    (shape : Shape) → IsShape shape → (c : Caller) → IsSound shape c → (word : ℕ) → CanAbsorb shape c word
    → IsSound shape (absorbed shape c word).caller × (steps_left shape (absorbed shape c word).caller < steps_left shape c)

-- what holds of a caller still holds after a move
abbrev pub MoveKeeps : Type 0
MoveKeeps = (shape : Shape) → IsShape shape → (c d : Caller) → IsSound shape c → IsMoved shape c d → IsSound shape d

-- it holds of a caller before its first attempt
abbrev pub OpeningIsSound : Type 0
OpeningIsSound = (shape : Shape) → IsShape shape → IsSound shape (opening shape)
