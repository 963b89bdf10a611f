-- The lines that start below a position, and the next one.
use Rattle.std.proofs.Common.{◌≡◌, ℕ, zero, suc, ◌+◌, ◌-◌, ◌<◌, ◌≤◌, true, List, [], ◌∷◌, ◌++◌, length, map, unwrap_or, ap, ◌∙◌, arith, inl, inr}
use Rattle.std.specs.List.{range_with_len, filter, find}
use Rattle.std.proofs.lemmas.Bool.{cond-true, cases_lt}
use Rattle.std.proofs.lemmas.List.{map-append}
use Rattle.std.proofs.lemmas.List.Elements.{filter-append}
use Rattle.mbox_cut.specs.Lines.{EndsLine}
use Rattle.mbox_cut.specs.Mbox.{starts_line, line_at, lines_of}
use Rattle.mbox_cut.specs.declared.span.Span.{Span}
use Rattle.mbox_cut.proofs.Ranges.{range_with_len-add, filter-none, find-none, find-append}

-- the lines that start from one position on and below another
abbrev pub lines_between : List ℕ → ℕ → ℕ → List Span
lines_between bytes low high = map (line_at bytes) (filter (starts_line bytes) (range_with_len low (high - low)))

module _ (bytes : List ℕ) where
  pub lines_between-split : (low mid high : ℕ) → low ≤ mid → mid ≤ high
      → lines_between bytes low high ≡ lines_between bytes low mid ++ lines_between bytes mid high
  lines_between-split low mid high before after =
      let sum : high - low ≡ mid - low + (high - mid) = omega arith in
      let from : low + (mid - low) ≡ mid = omega arith in
      let parts = ap (range_with_len low) sum ∙ range_with_len-add low (mid - low) (high - mid)
      ∙ ap (λ k. range_with_len low (mid - low) ++ range_with_len k (high - mid)) from in
      ap (λ positions. map (line_at bytes) (filter (starts_line bytes) positions)) parts
      ∙ ap (map (line_at bytes)) (filter-append (starts_line bytes) (range_with_len low (mid - low)) (range_with_len mid (high - mid)))
      ∙ map-append (line_at bytes) (filter (starts_line bytes) (range_with_len low (mid - low))) (filter (starts_line bytes) (range_with_len mid (high - mid)))

  found_from : (end : ℕ) → end ≤ length bytes → (end < length bytes → starts_line bytes end ≡ true)
      → unwrap_or (find (starts_line bytes) (range_with_len end (length bytes - end))) (length bytes) ≡ end
  found_from end within next =
      elim (cases_lt end (length bytes)) [
        | inl below ↦
            let one_more : length bytes - end ≡ suc (length bytes - (end + 1)) = omega arith in
            ap (λ n. unwrap_or (find (starts_line bytes) (range_with_len end n)) (length bytes)) one_more
            ∙ ap (λ found. unwrap_or found (length bytes)) (cond-true (starts_line bytes end) _ _ (next below))
        | inr past ↦
            let none : length bytes - end ≡ zero = omega arith in
            let same : length bytes ≡ end = omega arith in
            ap (λ n. unwrap_or (find (starts_line bytes) (range_with_len end n)) (length bytes)) none ∙ same
      ]

  pub line_at-ends : (start end : ℕ) → EndsLine bytes start end → line_at bytes start ≡ record { from = start; to = end }
  line_at-ends start end ends =
      let n = length bytes in
      let sum : n - (start + 1) ≡ end - (start + 1) + (n - end) = omega arith in
      let from : start + 1 + (end - (start + 1)) ≡ end = omega arith in
      let parts = ap (range_with_len (start + 1)) sum ∙ range_with_len-add (start + 1) (end - (start + 1)) (n - end)
      ∙ ap (λ k. range_with_len (start + 1) (end - (start + 1)) ++ range_with_len k (n - end)) from in
      let none = find-none (starts_line bytes) (start + 1) (end - (start + 1)) (λ k low high. ends.none_between k (omega arith) (omega arith)) in
      let to = ap (λ positions. unwrap_or (find (starts_line bytes) positions) n) parts
      ∙ ap (λ found. unwrap_or found n) (find-append (starts_line bytes) (range_with_len (start + 1) (end - (start + 1))) (range_with_len end (n - end)) none)
      ∙ found_from end ends.within ends.next in
      ap (λ (to : ℕ). let line : Span = record { from = start; to = to } in line) to

  pub lines_between-one : (start end : ℕ) → EndsLine bytes start end → starts_line bytes start ≡ true
      → lines_between bytes start end ≡ record { from = start; to = end } ∷ []
  lines_between-one start end ends starts =
      let one_more : end - start ≡ suc (end - (start + 1)) = omega arith in
      let rest = filter-none (starts_line bytes) (start + 1) (end - (start + 1)) (λ k low high. ends.none_between k (omega arith) (omega arith)) in
      ap (λ n. map (line_at bytes) (filter (starts_line bytes) (range_with_len start n))) one_more
      ∙ ap (map (line_at bytes)) (cond-true (starts_line bytes start) _ _ starts)
      ∙ ap (λ positions. line_at bytes start ∷ map (line_at bytes) positions) rest
      ∙ ap (λ (line : Span). line ∷ []) (line_at-ends start end ends)

  -- the lines below a line's end are those below its start and the line itself
  pub lines_between-more : (start end : ℕ) → EndsLine bytes start end → starts_line bytes start ≡ true
      → lines_between bytes 0 end ≡ lines_between bytes 0 start ++ record { from = start; to = end } ∷ []
  lines_between-more start end ends starts =
      lines_between-split 0 start end (omega arith) (omega (arith, ends.after))
      ∙ ap (λ lines. lines_between bytes 0 start ++ lines) (lines_between-one start end ends starts)

  -- all lines: those below a line's start, the line, and those from its end on
  pub lines_of-around : (start end : ℕ) → EndsLine bytes start end → starts_line bytes start ≡ true
      → lines_of bytes ≡ lines_between bytes 0 start ++ record { from = start; to = end } ∷ lines_between bytes end (length bytes)
  lines_of-around start end ends starts =
      let whole : length bytes ≡ length bytes - 0 = omega arith in
      ap (λ n. map (line_at bytes) (filter (starts_line bytes) (range_with_len 0 n))) whole
      ∙ lines_between-split 0 start (length bytes) (omega arith) (omega (arith, ends.after, ends.within))
      ∙ ap (λ lines. lines_between bytes 0 start ++ lines) (lines_between-split start end (length bytes) (omega (arith, ends.after)) ends.within
      ∙ ap (λ lines. lines ++ lines_between bytes end (length bytes)) (lines_between-one start end ends starts))
