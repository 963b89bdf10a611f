-- Offered to the crates above: what a mailbox holds that is written message after message.
use Rattle.std.proofs.Common.{◌≡◌, ℕ, ◌+◌, ◌-◌, ◌<◌, ◌≤◌, Bool, true, false, not, eqb, ◌&&◌, ◌||◌, List, [], ◌∷◌, ◌++◌, length, take, drop, map, refl, sym, ap, subst, ◌∙◌, arith, cond, codes, nat_eq}
use Rattle.std.specs.List.{filter, list_all, range_with_len, starts_with}
use Rattle.std.proofs.lemmas.Bool.{and_from, and_parts, false≢true}
use Rattle.std.proofs.Math.Seq.{take-append_seam, take-length}
use Rattle.std.proofs.lemmas.List.Folds.{list_all-append}
use Rattle.std.proofs.lemmas.List.{append_assoc, append-nil, length-append, length-drop}
use Rattle.mbox_cut.specs.Mbox.{begins_with_from, begins_as_mbox, beside_earlier, bytes_of, content_of, ends_in_empty_line, is_empty_line, is_mbox, is_separator, line_at, lines_of, messages_of, separators_among, spans_after, starts_line}
use Rattle.mbox_cut.specs.declared.span.Span.{Span}
use Rattle.mbox_cut.proofs.AllLines.{starts_line-first}
use Rattle.mbox_cut.proofs.LinesBelow.{lines_between, lines_between-one, lines_between-split}
use Rattle.mbox_cut.proofs.Separators.{separators_after}
use Rattle.mbox_cut.proofs.Steps.{after_empty-push, begins_as_mbox-decides, nonempty-from}
use Rattle.mbox_cut.proofs.Written.{HasLine, EndsLine-written, bytes_of-written, content_of-written, drop-written, within-written}
pub use Rattle.mbox_cut.proofs.Written.{is_plain, is_plain_byte}

-- the lines with these contents, each with a line feed at its end
abbrev pub written : List (List ℕ) → List ℕ
written [] = []
written (content ∷ contents) = content ++ 10 ∷ written contents

-- the spans of these lines, from a position on
abbrev pub spans_from : ℕ → List (List ℕ) → List Span
spans_from position [] = []
spans_from position (content ∷ contents) =
    record { from = position; to = position + (length content + 1) } ∷ spans_from (position + (length content + 1)) contents

-- the content begins with `From `
abbrev pub begins : List ℕ → Bool
begins content = starts_with nat_eq content (codes "From ")

not_true : (b : Bool) → not b ≡ true → b ≡ false
not_true true is = absurd (false≢true is)
not_true false is = refl

module _ (bytes : List ℕ) where
  -- from a position on, where a line starts, the bytes are these lines and no more
  pub record AreLines (position : ℕ) (contents : List (List ℕ)) : Type 0 where
    pub within : position ≤ length bytes
    pub is : drop position bytes ≡ written contents
    pub plain : list_all is_plain contents ≡ true
    pub starts : position < length bytes → starts_line bytes position ≡ true

  first_line : (position : ℕ) (content : List ℕ) (contents : List (List ℕ)) → AreLines position (content ∷ contents)
      → HasLine bytes position content (written contents)
  first_line position content contents are = record {
    within = are.within;
    is = are.is;
    plain =
        (and_parts (is_plain content) (list_all is_plain contents) are.plain).0;
  }

  other_lines : (position : ℕ) (content : List ℕ) (contents : List (List ℕ)) → AreLines position (content ∷ contents)
      → AreLines (position + (length content + 1)) contents
  other_lines position content contents are =
      let first = first_line position content contents are in
      record {
        within = within-written bytes position content (written contents) first;
        is = drop-written bytes position content (written contents) first;
        plain = (and_parts (is_plain content) (list_all is_plain contents) are.plain).1;
        starts = (EndsLine-written bytes position content (written contents) first).next;
      }

  lines_between-written : (position : ℕ) (contents : List (List ℕ)) → AreLines position contents
      → lines_between bytes position (length bytes) ≡ spans_from position contents
  lines_between-written position [] are =
      let none : length bytes - position ≡ 0 = omega (arith, sym (length-drop position bytes) ∙ ap length are.is) in
      ap (λ n. map (line_at bytes) (filter (starts_line bytes) (range_with_len position n))) none
  lines_between-written position (content ∷ contents) are =
      let end = position + (length content + 1) in
      let first = first_line position content contents are in
      let ends = EndsLine-written bytes position content (written contents) first in
      lines_between-split bytes position end (length bytes) (omega arith) ends.within
      ∙ ap (λ lines. lines ++ lines_between bytes end (length bytes))
      (lines_between-one bytes position end ends (are.starts (omega (arith, ends.after, ends.within))))
      ∙ ap (λ lines. record { from = position; to = end } ∷ lines) (lines_between-written end contents (other_lines position content contents are))

  -- ---- the separators among these lines

  -- only empty lines stand before, or the last of them is empty
  abbrev AfterEmpty : List Span → Type 0
  AfterEmpty earlier = (list_all (is_empty_line bytes) earlier || ends_in_empty_line bytes earlier) ≡ true

  abbrev first_span : ℕ → List ℕ → Span
  first_span position content = record { from = position; to = position + (length content + 1) }

  content_of-first : (position : ℕ) (content : List ℕ) (contents : List (List ℕ)) → AreLines position (content ∷ contents)
      → content_of (bytes_of bytes (first_span position content)) ≡ content
  content_of-first position content contents are =
      let first = first_line position content contents are in
      ap content_of (bytes_of-written bytes position content (written contents) first) ∙ content_of-written content first.plain

  others_after : (earlier : List Span) (line : Span) (later : List Span) → begins_with_from (bytes_of bytes line) ≡ false
      → separators_after bytes earlier (line ∷ later) ≡ separators_after bytes (earlier ++ line ∷ []) later
  others_after earlier line later other =
      let rest = filter (is_separator bytes) (beside_earlier bytes (earlier ++ line ∷ []) later) in
      ap (λ b. map (λ (beside : List Span × Span). beside.1)
      (cond (b && (list_all (is_empty_line bytes) earlier || ends_in_empty_line bytes earlier)) ((earlier, line) ∷ rest) rest)) other

  separator_after : (earlier : List Span) (line : Span) (later : List Span) → begins_with_from (bytes_of bytes line) ≡ true → AfterEmpty earlier
      → separators_after bytes earlier (line ∷ later) ≡ line ∷ separators_after bytes (earlier ++ line ∷ []) later
  separator_after earlier line later begins after_empty =
      let rest = filter (is_separator bytes) (beside_earlier bytes (earlier ++ line ∷ []) later) in
      ap (λ b. map (λ (beside : List Span × Span). beside.1) (cond b ((earlier, line) ∷ rest) rest)) (and_from _ _ begins after_empty)

  -- what stands behind some of the lines
  lines_past : (position : ℕ) (lines rest : List (List ℕ)) → AreLines position (lines ++ rest) → AreLines (position + length (written lines)) rest
  lines_past position [] rest are =
      let same : position ≡ position + 0 = omega arith in
      subst (λ p. AreLines p rest) same are
  lines_past position (content ∷ lines) rest are =
      let far : position + (length content + 1) + length (written lines) ≡ position + length (written (content ∷ lines)) =
      omega (arith, length-append content (10 ∷ written lines)) in
      subst (λ p. AreLines p rest) far (lines_past (position + (length content + 1)) lines rest (other_lines position content (lines ++ rest) are))

  -- lines that don't begin with `From ` are no separators
  skipped : (position : ℕ) (lines rest : List (List ℕ)) (earlier : List Span) → AreLines position (lines ++ rest)
      → list_all (λ content. not (begins content)) lines ≡ true
      → separators_after bytes earlier (spans_from position (lines ++ rest))
      ≡ separators_after bytes (earlier ++ spans_from position lines) (spans_from (position + length (written lines)) rest)
  skipped position [] rest earlier are others =
      let same : position ≡ position + 0 = omega arith in
      ap (λ before. separators_after bytes before (spans_from position rest)) (sym (append-nil earlier))
      ∙ ap (λ p. separators_after bytes (earlier ++ []) (spans_from p rest)) same
  skipped position (content ∷ lines) rest earlier are others =
      let end = position + (length content + 1) in
      let both = and_parts (not (begins content)) (list_all (λ content. not (begins content)) lines) others in
      let line = first_span position content in
      let no_separator : begins_with_from (bytes_of bytes line) ≡ false = ap begins (content_of-first position content (lines ++ rest) are)
      ∙ not_true (begins content) both.0 in
      let far : end + length (written lines) ≡ position + length (written (content ∷ lines)) = omega (arith, length-append content (10 ∷ written lines)) in
      others_after earlier line (spans_from end (lines ++ rest)) no_separator
      ∙ skipped end lines rest (earlier ++ line ∷ []) (other_lines position content (lines ++ rest) are) both.1
      ∙ ap (λ before. separators_after bytes before (spans_from (end + length (written lines)) rest)) (append_assoc earlier (line ∷ []) (spans_from end lines))
      ∙ ap (λ p. separators_after bytes (earlier ++ line ∷ spans_from end lines) (spans_from p rest)) far

-- ---- messages

written-append : (contents others : List (List ℕ)) → written (contents ++ others) ≡ written contents ++ written others
written-append [] others = refl
written-append (content ∷ contents) others =
    ap (λ rest. content ++ 10 ∷ rest) (written-append contents others) ∙ sym (append_assoc content (10 ∷ written contents) (written others))

-- a message as it is written: its separator, and its lines up to the empty line that ends it
abbrev pub WrittenMessage : Type 0
WrittenMessage = List ℕ × List (List ℕ)

-- the text of a message, with the empty line that ends it
abbrev pub text_of : WrittenMessage → List ℕ
text_of message = written message.1 ++ 10 ∷ []

-- a message with its separator
abbrev pub whole_of : WrittenMessage → List ℕ
whole_of message = message.0 ++ 10 ∷ text_of message

-- the messages one after the other
abbrev pub all_of : List WrittenMessage → List ℕ
all_of [] = []
all_of (message ∷ messages) = whole_of message ++ all_of messages

-- the separator begins with `From `, no other line does, and no line has a line feed or a carriage return in it
pub record IsWritten (message : WrittenMessage) : Type 0 where
  pub separator : begins message.0 ≡ true
  pub others : list_all (λ content. not (begins content)) message.1 ≡ true
  pub plain_separator : is_plain message.0 ≡ true
  pub plain_lines : list_all is_plain message.1 ≡ true

abbrev pub AreWritten : List WrittenMessage → Type 0
AreWritten [] = Unit {0}
AreWritten (message ∷ messages) = IsWritten message × AreWritten messages

contents_of : List WrittenMessage → List (List ℕ)
contents_of [] = []
contents_of (message ∷ messages) = message.0 ∷ (message.1 ++ [] ∷ contents_of messages)

all_of-contents : (messages : List WrittenMessage) → written (contents_of messages) ≡ all_of messages
unfolding contents_of
all_of-contents [] = refl
all_of-contents (message ∷ messages) =
    ap (λ rest. message.0 ++ 10 ∷ rest) (written-append message.1 ([] ∷ contents_of messages)
    ∙ ap (λ rest. written message.1 ++ 10 ∷ rest) (all_of-contents messages)
    ∙ sym (append_assoc (written message.1) (10 ∷ []) (all_of messages)))
    ∙ sym (append_assoc message.0 (10 ∷ text_of message) (all_of messages))

plain_contents : (messages : List WrittenMessage) → AreWritten messages → list_all is_plain (contents_of messages) ≡ true
unfolding contents_of
plain_contents [] are = refl
plain_contents (message ∷ messages) are =
    and_from (is_plain message.0) _ are.0.plain_separator
    (list_all-append is_plain message.1 ([] ∷ contents_of messages)
    ∙ and_from (list_all is_plain message.1) _ are.0.plain_lines (plain_contents messages are.1))

-- where the separators lie
separator_spans : ℕ → List WrittenMessage → List Span
separator_spans position [] = []
separator_spans position (message ∷ messages) =
    record { from = position; to = position + (length message.0 + 1) }
    ∷ separator_spans (position + (length message.0 + 1) + length (written message.1) + 1) messages

module _ (bytes : List ℕ) where
  separators_after-written : (position : ℕ) (messages : List WrittenMessage) (earlier : List Span) → AreWritten messages
      → AreLines bytes position (contents_of messages) → AfterEmpty bytes earlier
      → separators_after bytes earlier (spans_from position (contents_of messages)) ≡ separator_spans position messages
  unfolding contents_of separator_spans
  separators_after-written position [] earlier written_all are after_empty = refl
  separators_after-written position (message ∷ messages) earlier written_all are after_empty =
      let separator = first_span bytes position message.0 in
      let second = position + (length message.0 + 1) in
      let rest = [] ∷ contents_of messages in
      let found = separator_after bytes earlier separator (spans_from second (message.1 ++ rest))
      (ap begins (content_of-first bytes position message.0 (message.1 ++ rest) are) ∙ written_all.0.separator) after_empty in
      let lines = other_lines bytes position message.0 (message.1 ++ rest) are in
      let ending = lines_past bytes second message.1 rest lines in
      let last = second + length (written message.1) in
      let before = (earlier ++ separator ∷ []) ++ spans_from second message.1 in
      let empty = first_span bytes last [] in
      let content : content_of (bytes_of bytes empty) ≡ [] = content_of-first bytes last [] (contents_of messages) ending in
      let after : AfterEmpty bytes (before ++ empty ∷ []) = after_empty-push bytes before empty ∙ ap (λ line. eqb (length line) 0) content in
      let later = separators_after-written (last + 1) messages (before ++ empty ∷ []) written_all.1
      (other_lines bytes last [] (contents_of messages) ending) after in
      found ∙ ap (λ spans. separator ∷ spans) (skipped bytes second message.1 rest (earlier ++ separator ∷ []) lines written_all.0.others
      ∙ others_after bytes before empty (spans_from (last + 1) (contents_of messages)) (ap begins content) ∙ later)

  -- the texts lie between the separators
  texts_between : (position : ℕ) (messages : List WrittenMessage) → AreLines bytes position (contents_of messages)
      → map (bytes_of bytes) (spans_after (separator_spans position messages) (length bytes)) ≡ map text_of messages
  unfolding contents_of separator_spans
  texts_between position [] are = refl
  texts_between position (message ∷ []) are =
      let lines = other_lines bytes position message.0 (message.1 ++ [] ∷ []) are in
      let second = position + (length message.0 + 1) in
      let is : drop second bytes ≡ text_of message = lines.is ∙ written-append message.1 ([] ∷ []) in
      let long : length bytes - second ≡ length (text_of message) = sym (length-drop second bytes) ∙ ap length is in
      ap (λ text. text ∷ []) (ap (λ n. take n (drop second bytes)) long ∙ ap (take (length (text_of message))) is ∙ take-length (text_of message))
  texts_between position (message ∷ next ∷ messages) are =
      let rest = contents_of (next ∷ messages) in
      let lines = other_lines bytes position message.0 (message.1 ++ [] ∷ rest) are in
      let second = position + (length message.0 + 1) in
      let third = second + length (written message.1) + 1 in
      let is : drop second bytes ≡ text_of message ++ written rest =
      lines.is ∙ written-append message.1 ([] ∷ rest) ∙ sym (append_assoc (written message.1) (10 ∷ []) (written rest)) in
      let long : third - second ≡ length (text_of message) = omega (arith, length-append (written message.1) (10 ∷ [])) in
      let text = ap (λ n. take n (drop second bytes)) long ∙ ap (take (length (text_of message))) is ∙ take-append_seam (text_of message) (written rest) in
      let later = other_lines bytes (second + length (written message.1)) [] rest (lines_past bytes second message.1 ([] ∷ rest) lines) in
      ap (λ first. first ∷ map (bytes_of bytes) (spans_after (separator_spans third (next ∷ messages)) (length bytes))) text
      ∙ ap (λ texts. text_of message ∷ texts) (texts_between third (next ∷ messages) later)

begins_written : (bytes : List ℕ) (messages : List WrittenMessage) → AreWritten messages → AreLines bytes 0 (contents_of messages)
    → begins_as_mbox bytes (spans_from 0 (contents_of messages)) ≡ true
unfolding contents_of
begins_written bytes [] written_all are = refl
begins_written bytes (message ∷ messages) written_all are =
    let rest = message.1 ++ [] ∷ contents_of messages in
    let content = content_of-first bytes 0 message.0 rest are in
    let some : is_empty_line bytes (first_span bytes 0 message.0) ≡ false =
    ap (λ line. eqb (length line) 0) content ∙ nonempty-from message.0 written_all.0.separator in
    begins_as_mbox-decides bytes (first_span bytes 0 message.0) (spans_from (0 + (length message.0 + 1)) rest) some
    ∙ ap begins content ∙ written_all.0.separator

-- a mailbox that is written message after message is one, and these are its messages
pub messages_of-written : (messages : List WrittenMessage) → AreWritten messages
    → (is_mbox (all_of messages) ≡ true) × (map (bytes_of (all_of messages)) (messages_of (all_of messages)) ≡ map text_of messages)
messages_of-written messages written_all =
    let bytes = all_of messages in
    let contents = contents_of messages in
    let are : AreLines bytes 0 contents = record {
      within = omega arith;
      is = sym (all_of-contents messages);
      plain = plain_contents messages written_all;
      starts = starts_line-first bytes;
    } in
    let whole : length bytes ≡ length bytes - 0 = omega arith in
    let lines : lines_of bytes ≡ spans_from 0 contents =
    ap (λ n. map (line_at bytes) (filter (starts_line bytes) (range_with_len 0 n))) whole ∙ lines_between-written bytes 0 contents are in
    let mbox = ap (begins_as_mbox bytes) lines ∙ begins_written bytes messages written_all are in
    let separators = ap (separators_among bytes) lines ∙ separators_after-written bytes 0 messages [] written_all are refl in (
      mbox,
      ap (λ b. map (bytes_of bytes) (cond b (spans_after (separators_among bytes (lines_of bytes)) (length bytes)) [])) mbox
          ∙ ap (λ spans. map (bytes_of bytes) (spans_after spans (length bytes))) separators
          ∙ texts_between bytes 0 messages are,
    )
