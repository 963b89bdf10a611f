-- A mailbox in the default mbox form (RFC 4155, Appendix A), read leniently: where its lines and its messages lie.
-- A span is a pair of positions in the bytes, from the first byte on and up to, but without, the other.
use Rattle.std.specs.Prelude.{ℕ, ◌+◌, ◌-◌, ◌==◌, ◌&&◌, ◌||◌, Bool, true, false, not, nat_lt, nat_eq, List, [], ◌∷◌, ◌++◌, length, map, filter, find, take, slice_index, slice_range, codes, unwrap_or, if◌then◌else◌}
use Rattle.std.specs.List.{range_with_len, starts_with, ends_with, list_all}
use Rattle.std.specs.Option.{option_map_or}
use Rattle.mbox_cut.specs.declared.span.Span.{Span}

-- a line starts at the first position, and at each position directly after a line feed
abbrev pub starts_line : List ℕ → ℕ → Bool
starts_line bytes position = nat_lt position (length bytes) && (position == 0 || slice_index bytes (position - 1) == 10)

-- the line that starts at a position reaches to the next position at which one starts, or to the end
abbrev pub line_at : List ℕ → ℕ → Span
line_at bytes position =
    let later = range_with_len (position + 1) (length bytes - (position + 1)) in
    record { from = position; to = unwrap_or (find (starts_line bytes) later) (length bytes) }

-- the lines, in order
abbrev pub lines_of : List ℕ → List Span
lines_of bytes = map (line_at bytes) (filter (starts_line bytes) (range_with_len 0 (length bytes)))

-- the content of a line: without the line feed at its end and a carriage return directly before that
abbrev pub content_of : List ℕ → List ℕ
content_of line =
    if ends_with nat_eq line (13 ∷ 10 ∷ []) then take (length line - 2) line
    else (if ends_with nat_eq line (10 ∷ []) then take (length line - 1) line else line)

-- the content begins with `From `
abbrev pub begins_with_from : List ℕ → Bool
begins_with_from line = starts_with nat_eq (content_of line) (codes "From ")

module _ (bytes : List ℕ) where
  -- the bytes of a span
  abbrev pub bytes_of : Span → List ℕ
  bytes_of span = slice_range bytes span.from span.to

  -- a line is empty where its content has no bytes
  abbrev pub is_empty_line : Span → Bool
  is_empty_line line = length (content_of (bytes_of line)) == 0

  -- each line, beside the lines before it
  abbrev pub beside_earlier : List Span → List Span → List (List Span × Span)
  beside_earlier earlier [] = []
  beside_earlier earlier (line ∷ later) = (earlier, line) ∷ beside_earlier (earlier ++ line ∷ []) later

  -- the last of the lines is empty
  abbrev pub ends_in_empty_line : List Span → Bool
  ends_in_empty_line [] = false
  ends_in_empty_line (line ∷ []) = is_empty_line line
  ends_in_empty_line (line ∷ next ∷ lines) = ends_in_empty_line (next ∷ lines)

  -- a line is a separator where it begins with `From ` and either only empty lines stand before it,
  -- or the line directly before it is empty
  abbrev pub is_separator : List Span × Span → Bool
  is_separator beside =
      begins_with_from (bytes_of beside.1) && (list_all is_empty_line beside.0 || ends_in_empty_line beside.0)

  -- the separators among the lines
  abbrev pub separators_among : List Span → List Span
  separators_among lines = map (λ beside. beside.1) (filter is_separator (beside_earlier [] lines))

  -- the first line that isn't empty begins with `From `, or there is none
  abbrev pub begins_as_mbox : List Span → Bool
  begins_as_mbox lines = option_map_or (λ line. begins_with_from (bytes_of line)) (find (λ line. not (is_empty_line line)) lines) true

-- the bytes are a mailbox
abbrev pub is_mbox : List ℕ → Bool
is_mbox bytes = begins_as_mbox bytes (lines_of bytes)

-- from the end of each separator to the start of the next one, and from the last to the end
abbrev pub spans_after : List Span → ℕ → List Span
spans_after [] end = []
spans_after (line ∷ []) end = record { from = line.to; to = end } ∷ []
spans_after (line ∷ next ∷ lines) end = record { from = line.to; to = next.from } ∷ spans_after (next ∷ lines) end

-- the messages, in order
abbrev pub messages_of : List ℕ → List Span
messages_of bytes = if is_mbox bytes then spans_after (separators_among bytes (lines_of bytes)) (length bytes) else []
