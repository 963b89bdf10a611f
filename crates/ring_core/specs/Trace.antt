-- a caller that is given one word after another
use Rattle.std.specs.Prelude.{ℕ, List, [], ◌∷◌}
use Rattle.ring_core.specs.declared.shape.Shape.{Shape}
use Rattle.ring_core.specs.declared.caller.Caller.{Caller}
use Rattle.ring_core.specs.declared.action.Action.{Action}
use Rattle.ring_core.specs.declared.action.Progress.{Progress}
use Rattle.ring_core.specs.Request.{next_action}
use Rattle.ring_core.specs.Outcomes.{absorbed}

-- its steps, each with the answer
abbrev pub trace_of : Shape → Caller → List ℕ → List (Action × Progress)
trace_of shape c [] = []
trace_of shape c (word ∷ words) =
    (next_action shape c, (absorbed shape c word).progress) ∷ trace_of shape (absorbed shape c word).caller words

-- the caller after them
abbrev pub after : Shape → Caller → List ℕ → Caller
after shape c [] = c
after shape c (word ∷ words) = after shape (absorbed shape c word).caller words
