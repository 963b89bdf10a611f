-- Worked examples of texts that aren't replayed.
use Rattle.std.specs.Prelude.{[], ◌∷◌, ◌++◌, codes}
use Rattle.ring_replay.specs.Traces.{HasBadLine}

-- an empty text has no first line, and one that begins with another line is refused there
abbrev pub EmptyExample : Type 0
EmptyExample = HasBadLine [] 1

abbrev pub FirstExample : Type 0
FirstExample = HasBadLine (codes "# a" ++ 10 ∷ codes "0 begin") 2
