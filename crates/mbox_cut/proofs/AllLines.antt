-- What a cutter has after all lines.
use Rattle.std.proofs.Common.{◌≡◌, ℕ, ◌-◌, ◌<◌, ◌≤◌, ltb, true, cond, List, [], ◌++◌, length, map, Option, None, Some, MatchOption, refl, sym, ap, ◌∙◌, arith}
use Rattle.std.specs.List.{filter, list_all, range_with_len}
use Rattle.std.proofs.lemmas.Bool.{and_from, lt-ltb}
use Rattle.std.proofs.lemmas.List.{append-nil, length-append}
use Rattle.mbox_cut.specs.Cutting.{HasCut, HasTooMany, open_message}
use Rattle.mbox_cut.specs.Mbox.{begins_as_mbox, is_empty_line, is_mbox, line_at, lines_of, messages_of, separators_among, spans_after, starts_line}
use Rattle.mbox_cut.specs.declared.cutter.Cutter.{Cutter}
use Rattle.mbox_cut.specs.declared.span.Span.{Span}
use Rattle.mbox_cut.proofs.LinesBelow.{lines_between}
use Rattle.mbox_cut.proofs.Separators.{length-spans_after}
use Rattle.mbox_cut.proofs.Steps.{begins_as_mbox-skip}

pub starts_line-first : (bytes : List ℕ) → 0 < length bytes → starts_line bytes 0 ≡ true
starts_line-first bytes some = and_from (ltb 0 (length bytes)) true (lt-ltb 0 (length bytes) some) refl

begins_as_mbox-all : (bytes : List ℕ) (lines : List Span) (start : Option ℕ)
    → MatchOption start (list_all (is_empty_line bytes) lines ≡ true) (λ _. (later : List Span) → begins_as_mbox bytes (lines ++ later) ≡ true)
    → begins_as_mbox bytes (lines ++ []) ≡ true
begins_as_mbox-all bytes lines None empty = begins_as_mbox-skip bytes lines [] empty
begins_as_mbox-all bytes lines (Some start) begun = begun []

length-open_message : (start : Option ℕ) (end other : ℕ) → length (open_message start end) ≡ length (open_message start other)
length-open_message None end other = refl
length-open_message (Some start) end other = refl

pub length-messages_of_mbox : (bytes : List ℕ) → is_mbox bytes ≡ true → length (messages_of bytes) ≡ length (separators_among bytes (lines_of bytes))
length-messages_of_mbox bytes mbox =
    let separators = separators_among bytes (lines_of bytes) in
    ap (λ b. length (cond b (spans_after separators (length bytes)) [])) mbox ∙ length-spans_after separators (length bytes)

pub messages_of-too_many : (bytes : List ℕ) (limit : ℕ) → HasTooMany bytes (lines_of bytes) limit → limit < length (messages_of bytes)
messages_of-too_many bytes limit too_many = omega (arith, length-messages_of_mbox bytes too_many.mbox, too_many.more)

module _ (bytes : List ℕ) (end : ℕ) (whole : end ≡ length bytes) where
  lines_between-all : lines_between bytes 0 end ≡ lines_of bytes
  lines_between-all =
      let same : end - 0 ≡ length bytes = omega (arith, whole) in
      ap (λ n. map (line_at bytes) (filter (starts_line bytes) (range_with_len 0 n))) same

  module _ (cutter : Cutter) (had : HasCut bytes (lines_between bytes 0 end) cutter) where
    pub is_mbox-cut : is_mbox bytes ≡ true
    is_mbox-cut =
        ap (begins_as_mbox bytes) (sym lines_between-all ∙ sym (append-nil (lines_between bytes 0 end)))
        ∙ begins_as_mbox-all bytes (lines_between bytes 0 end) cutter.message_start had.begun

    pub messages_of-cut : messages_of bytes ≡ cutter.messages.items ++ open_message cutter.message_start (length bytes)
    messages_of-cut =
        ap (λ b. cond b (spans_after (separators_among bytes (lines_of bytes)) (length bytes)) []) is_mbox-cut
        ∙ ap (λ lines. spans_after (separators_among bytes lines) (length bytes)) (sym lines_between-all)
        ∙ had.spans (length bytes)

    -- no more messages than the limit
    pub length-messages_of : length (messages_of bytes) ≤ cutter.limit
    length-messages_of =
        let count = ap length messages_of-cut ∙ length-append cutter.messages.items (open_message cutter.message_start (length bytes)) in
        omega (arith, count, length-open_message cutter.message_start (length bytes) 0, had.limited)
