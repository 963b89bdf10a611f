-- How spans lie beside one another.
use Rattle.std.specs.Prelude.{ℕ, ◌<◌, ◌≤◌}
use Rattle.mbox_cut.specs.declared.span.Span.{Span}

-- the span lies in this many bytes
abbrev pub LiesIn : ℕ → Span → Type 0
LiesIn length span = (span.from ≤ span.to) × (span.to ≤ length)

-- one span ends before the other begins
abbrev pub EndsBefore : Span → Span → Type 0
EndsBefore span later = span.to < later.from
