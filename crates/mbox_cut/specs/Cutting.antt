-- How far a cutter has come.
use Rattle.std.specs.Prelude.{◌≡◌, ℕ, ◌+◌, length, ◌<◌, ◌≤◌, true, ◌||◌, List, [], ◌∷◌, ◌++◌, Option, None, Some, MatchOption}
use Rattle.std.specs.List.{All, AllPairs, list_all}
use Rattle.mbox_cut.specs.Mbox.{begins_as_mbox, ends_in_empty_line, is_empty_line, separators_among, spans_after}
use Rattle.mbox_cut.specs.Spans.{EndsBefore, LiesIn}
use Rattle.mbox_cut.specs.declared.span.Span.{Span}
use Rattle.mbox_cut.specs.declared.cutter.Cutter.{Cutter}

-- the message that is open, if it ended here
abbrev pub open_message : Option ℕ → ℕ → List Span
open_message None end = []
open_message (Some start) end = record { from = start; to = end } ∷ []

-- what the cutter has after these lines
pub record HasCut (bytes : List ℕ) (lines : List Span) (cutter : Cutter) : Type 0 where
  pub spans : (end : ℕ) → spans_after (separators_among bytes lines) end ≡ cutter.messages.items ++ open_message cutter.message_start end
  pub after_empty : cutter.after_empty ≡ (list_all (is_empty_line bytes) lines || ends_in_empty_line bytes lines)
  pub begun : MatchOption cutter.message_start (list_all (is_empty_line bytes) lines ≡ true) (λ _. (later : List Span)
      → begins_as_mbox bytes (lines ++ later) ≡ true)
  pub limited : length cutter.messages.items + length (open_message cutter.message_start 0) ≤ cutter.limit

-- these lines are a mailbox of more messages than the limit
pub record HasTooMany (bytes : List ℕ) (lines : List Span) (limit : ℕ) : Type 0 where
  pub mbox : begins_as_mbox bytes lines ≡ true
  pub more : limit < length (separators_among bytes lines)

-- the messages lie below a position, one after the other, and so does the start of the open one
pub record IsInOrder (messages : List Span) (start : Option ℕ) (end : ℕ) : Type 0 where
  pub within : All (LiesIn end) messages
  pub rising : AllPairs EndsBefore messages
  pub next : MatchOption start (Unit {0}) (λ position. (position ≤ end) × All (λ span. span.to < position) messages)
