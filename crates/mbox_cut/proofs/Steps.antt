-- What a cutter has after one more line.
use Rattle.std.proofs.Common.{◌≡◌, ℕ, suc, ◌<◌, ◌≤◌, Bool, true, false, not, cond, eqb, ◌&&◌, ◌||◌, List, [], ◌∷◌, ◌++◌, length, Option, None, Some, MatchOption, refl, sym, ap, subst, ◌∙◌, arith, nat_eq, codes}
use Rattle.std.specs.List.{find, list_all, starts_with}
use Rattle.std.specs.Option.{option_map_or}
use Rattle.std.proofs.lemmas.Bool.{false≢true, and_parts, and_from, ne_eqb, or_left}
use Rattle.std.proofs.lemmas.List.{append-nil, append_assoc}
use Rattle.std.proofs.lemmas.List.Folds.{list_all-append}
use Rattle.mbox_cut.specs.Cutting.{HasCut, HasTooMany, open_message}
use Rattle.mbox_cut.specs.Mbox.{is_empty_line, ends_in_empty_line, is_separator, separators_among, spans_after, begins_as_mbox, begins_with_from, bytes_of, content_of}
use Rattle.mbox_cut.specs.declared.cutter.Cutter.{Cutter}
use Rattle.mbox_cut.specs.declared.span.Span.{Span}
use Rattle.mbox_cut.proofs.Separators.{ends_in_empty_line-push, length-spans_after, separators_among-more, separators_among-push, spans_after-push}

-- what begins with `From ` isn't empty
pub nonempty-from : (content : List ℕ) → starts_with nat_eq content (codes "From ") ≡ true → eqb (length content) 0 ≡ false
nonempty-from [] begins = absurd (false≢true begins)
nonempty-from (byte ∷ content) begins = ne_eqb (suc (length content)) 0 (λ e. omega arith)

absorb : (all last : Bool) → ((all && (last && true)) || last) ≡ last
absorb true true = refl
absorb true false = refl
absorb false last = refl

module _ (bytes : List ℕ) where
  -- empty lines at the front don't count
  pub begins_as_mbox-skip : (lines later : List Span) → list_all (is_empty_line bytes) lines ≡ true
      → begins_as_mbox bytes (lines ++ later) ≡ begins_as_mbox bytes later
  begins_as_mbox-skip [] later empty = refl
  begins_as_mbox-skip (line ∷ lines) later empty =
      let both = and_parts (is_empty_line bytes line) (list_all (is_empty_line bytes) lines) empty in
      ap (λ b. option_map_or (λ line. begins_with_from (bytes_of bytes line))
      (cond (not b) (Some line) (find (λ line. not (is_empty_line bytes line)) (lines ++ later))) true) both.0
      ∙ begins_as_mbox-skip lines later both.1

  -- the first line that isn't empty decides
  pub begins_as_mbox-decides : (line : Span) (later : List Span) → is_empty_line bytes line ≡ false
      → begins_as_mbox bytes (line ∷ later) ≡ begins_with_from (bytes_of bytes line)
  begins_as_mbox-decides line later nonempty =
      ap (λ b. option_map_or (λ line. begins_with_from (bytes_of bytes line))
      (cond (not b) (Some line) (find (λ line. not (is_empty_line bytes line)) later)) true) nonempty

  pub after_empty-push : (lines : List Span) (line : Span)
      → (list_all (is_empty_line bytes) (lines ++ line ∷ []) || ends_in_empty_line bytes (lines ++ line ∷ [])) ≡ is_empty_line bytes line
  after_empty-push lines line =
      let all = list_all-append (is_empty_line bytes) lines (line ∷ []) in
      let last = ends_in_empty_line-push bytes lines line in
      ap (λ b. b || ends_in_empty_line bytes (lines ++ line ∷ [])) all
      ∙ ap (λ b. (list_all (is_empty_line bytes) lines && (is_empty_line bytes line && true)) || b) last
      ∙ absorb (list_all (is_empty_line bytes) lines) (is_empty_line bytes line)

  -- what stays of the first line that isn't empty
  begun_after : (lines : List Span) (line : Span) (start : Option ℕ)
      → MatchOption start (list_all (is_empty_line bytes) lines ≡ true) (λ _. (later : List Span) → begins_as_mbox bytes (lines ++ later) ≡ true)
      → (start ≡ None → is_empty_line bytes line ≡ true)
      → MatchOption start (list_all (is_empty_line bytes) (lines ++ line ∷ []) ≡ true) (λ _. (later : List Span)
      → begins_as_mbox bytes ((lines ++ line ∷ []) ++ later) ≡ true)
  begun_after lines line None begun empty =
      list_all-append (is_empty_line bytes) lines (line ∷ []) ∙ and_from (list_all (is_empty_line bytes) lines) (is_empty_line bytes line && true) begun
      (and_from (is_empty_line bytes line) true (empty refl) refl)
  begun_after lines line (Some start) begun empty = λ later. ap (begins_as_mbox bytes) (append_assoc lines (line ∷ []) later) ∙ begun (line ∷ later)

  begun_by_separator : (lines : List Span) (line : Span) (start : Option ℕ)
      → MatchOption start (list_all (is_empty_line bytes) lines ≡ true) (λ _. (later : List Span) → begins_as_mbox bytes (lines ++ later) ≡ true)
      → begins_with_from (bytes_of bytes line) ≡ true → (later : List Span) → begins_as_mbox bytes (lines ++ line ∷ later) ≡ true
  begun_by_separator lines line None begun begins = λ later.
      begins_as_mbox-skip lines (line ∷ later) begun
      ∙ begins_as_mbox-decides line later (nonempty-from (content_of (bytes_of bytes line)) begins) ∙ begins
  begun_by_separator lines line (Some start) begun begins = λ later. begun (line ∷ later)

  -- a line that isn't empty and no separator, where no line that isn't empty stands before it
  pub begins_as_mbox-refused : (lines : List Span) (line : Span) (later : List Span) (old : Cutter) → HasCut bytes lines old → old.message_start ≡ None
      → is_empty_line bytes line ≡ false → is_separator bytes (lines, line) ≡ false → begins_as_mbox bytes (lines ++ line ∷ later) ≡ false
  begins_as_mbox-refused lines line later old had none nonempty other =
      let all_empty = subst (λ o. MatchOption o (list_all (is_empty_line bytes) lines ≡ true) (λ _. (later : List Span)
      → begins_as_mbox bytes (lines ++ later) ≡ true)) none had.begun in
      let stands = or_left (list_all (is_empty_line bytes) lines) (ends_in_empty_line bytes lines) all_empty in
      begins_as_mbox-skip lines (line ∷ later) all_empty ∙ begins_as_mbox-decides line later nonempty
      ∙ (elim (begins_with_from (bytes_of bytes line)) as (λ b. (b && (list_all (is_empty_line bytes) lines || ends_in_empty_line bytes lines)) ≡ false
      → b ≡ false) [ true ↦ λ is. sym stands ∙ is | false ↦ λ is. refl ] other)

  -- a separator for which there is no room
  pub HasTooMany-separator : (lines : List Span) (line : Span) (old : Cutter) → HasCut bytes lines old → is_separator bytes (lines, line) ≡ true
      → old.limit ≤ length (old.messages.items ++ open_message old.message_start line.from) → (later : List Span)
      → HasTooMany bytes (lines ++ line ∷ later) old.limit
  HasTooMany-separator lines line old had separator full later = record {
    mbox = begun_by_separator lines line old.message_start had.begun
        (and_parts (begins_with_from (bytes_of bytes line)) (list_all (is_empty_line bytes) lines || ends_in_empty_line bytes lines) separator).0 later;
    more =
        let count = sym (ap length (had.spans line.from)) ∙ length-spans_after (separators_among bytes lines) line.from in
        omega (arith, full, count, separators_among-more bytes lines line later separator);
  }

  module _ (lines : List Span) (line : Span) (old new : Cutter) (had : HasCut bytes lines old) where
    -- a line that is no separator
    pub HasCut-other : is_separator bytes (lines, line) ≡ false → new.messages.items ≡ old.messages.items → new.message_start ≡ old.message_start
        → new.after_empty ≡ is_empty_line bytes line → new.limit ≡ old.limit → (old.message_start ≡ None → is_empty_line bytes line ≡ true)
        → HasCut bytes (lines ++ line ∷ []) new
    HasCut-other other messages start after_empty limit empty = record {
      spans = λ end.
          let same = separators_among-push bytes lines line ∙ ap (λ b. separators_among bytes lines ++ cond b (line ∷ []) []) other
          ∙ append-nil (separators_among bytes lines) in
          ap (λ separators. spans_after separators end) same ∙ had.spans end
          ∙ ap (λ items. items ++ open_message old.message_start end) (sym messages) ∙ ap (λ o. new.messages.items ++ open_message o end) (sym start);
      after_empty = after_empty ∙ sym (after_empty-push lines line);
      begun = subst (λ o. MatchOption o (list_all (is_empty_line bytes) (lines ++ line ∷ []) ≡ true) (λ _. (later : List Span)
          → begins_as_mbox bytes ((lines ++ line ∷ []) ++ later) ≡ true)) (sym start) (begun_after lines line old.message_start had.begun empty);
      limited = omega (arith, had.limited, ap length messages, ap (λ o. length (open_message o 0)) start, limit);
    }

    -- a separator
    pub HasCut-separator : is_separator bytes (lines, line) ≡ true → new.messages.items ≡ old.messages.items ++ open_message old.message_start line.from
        → new.message_start ≡ Some line.to → new.after_empty ≡ is_empty_line bytes line → new.limit ≡ old.limit → length new.messages.items < old.limit
        → HasCut bytes (lines ++ line ∷ []) new
    HasCut-separator separator messages start after_empty limit room = record {
      spans = λ end.
          let more = separators_among-push bytes lines line ∙ ap (λ b. separators_among bytes lines ++ cond b (line ∷ []) []) separator in
          ap (λ separators. spans_after separators end) more
          ∙ spans_after-push (separators_among bytes lines) line end
          ∙ ap (λ spans. spans ++ record { from = line.to; to = end } ∷ []) (had.spans line.from ∙ sym messages)
          ∙ ap (λ o. new.messages.items ++ open_message o end) (sym start);
      after_empty = after_empty ∙ sym (after_empty-push lines line);
      begun =
          let begins = (and_parts (begins_with_from (bytes_of bytes line)) (list_all (is_empty_line bytes) lines || ends_in_empty_line bytes lines) separator).0
          in
          subst (λ o. MatchOption o (list_all (is_empty_line bytes) (lines ++ line ∷ []) ≡ true) (λ _. (later : List Span)
          → begins_as_mbox bytes ((lines ++ line ∷ []) ++ later) ≡ true)) (sym start)
          (λ later. ap (begins_as_mbox bytes) (append_assoc lines (line ∷ []) later)
          ∙ begun_by_separator lines line old.message_start had.begun begins later);
      limited = omega (arith, room, limit, ap (λ o. length (open_message o 0)) start);
    }
