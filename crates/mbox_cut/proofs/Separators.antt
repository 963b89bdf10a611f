-- The separators and messages of some lines and one more.
use Rattle.std.proofs.Common.{◌≡◌, ℕ, suc, ◌<◌, true, false, cond, List, [], ◌∷◌, ◌++◌, length, map, refl, sym, ap, ◌∙◌, arith}
use Rattle.std.specs.List.{filter}
use Rattle.std.proofs.lemmas.List.{map-append, append-nil, append_assoc, length-append}
use Rattle.std.proofs.lemmas.Bool.{cond-true}
use Rattle.std.proofs.lemmas.List.Elements.{filter-append}
use Rattle.mbox_cut.specs.Mbox.{is_empty_line, beside_earlier, ends_in_empty_line, is_separator, separators_among, spans_after}
use Rattle.mbox_cut.specs.declared.span.Span.{Span}

module _ (bytes : List ℕ) where
  beside_earlier-append : (earlier lines later : List Span)
      → beside_earlier bytes earlier (lines ++ later) ≡ beside_earlier bytes earlier lines ++ beside_earlier bytes (earlier ++ lines) later
  beside_earlier-append earlier [] later = ap (λ (before : List Span). beside_earlier bytes before later) (sym (append-nil earlier))
  beside_earlier-append earlier (first ∷ lines) later =
      ap (λ rest. (earlier, first) ∷ rest) (beside_earlier-append (earlier ++ first ∷ []) lines later
      ∙ ap (λ (before : List Span). beside_earlier bytes (earlier ++ first ∷ []) lines ++ beside_earlier bytes before later)
      (append_assoc earlier (first ∷ []) lines))

  pub ends_in_empty_line-push : (lines : List Span) (line : Span) → ends_in_empty_line bytes (lines ++ line ∷ []) ≡ is_empty_line bytes line
  ends_in_empty_line-push [] line = refl
  ends_in_empty_line-push (first ∷ []) line = refl
  ends_in_empty_line-push (first ∷ next ∷ lines) line = ends_in_empty_line-push (next ∷ lines) line

  -- the separators among lines that follow others
  abbrev pub separators_after : List Span → List Span → List Span
  separators_after lines later = map (λ (beside : List Span × Span). beside.1) (filter (is_separator bytes) (beside_earlier bytes lines later))

  pub separators_among-append : (lines later : List Span) → separators_among bytes (lines ++ later)
      ≡ separators_among bytes lines ++ separators_after lines later
  separators_among-append lines later =
      ap (λ besides. map (λ (beside : List Span × Span). beside.1) (filter (is_separator bytes) besides)) (beside_earlier-append [] lines later)
      ∙ ap (map (λ (beside : List Span × Span). beside.1))
      (filter-append (is_separator bytes) (beside_earlier bytes [] lines) (beside_earlier bytes lines later))
      ∙ map-append (λ (beside : List Span × Span). beside.1) (filter (is_separator bytes) (beside_earlier bytes [] lines))
      (filter (is_separator bytes) (beside_earlier bytes lines later))

  pub separators_among-push : (lines : List Span) (line : Span)
      → separators_among bytes (lines ++ line ∷ []) ≡ separators_among bytes lines ++ cond (is_separator bytes (lines, line)) (line ∷ []) []
  separators_among-push lines line =
      separators_among-append lines (line ∷ [])
      ∙ ap (λ found. separators_among bytes lines ++ found)
      (elim (is_separator bytes (lines, line)) as (λ b. map (λ (beside : List Span × Span). beside.1) (cond b ((lines, line) ∷ []) []) ≡ cond b (line ∷ []) [])
      [ true ↦ refl | false ↦ refl ])

  -- a separator is one more, whatever follows
  pub separators_among-more : (lines : List Span) (line : Span) (later : List Span) → is_separator bytes (lines, line) ≡ true
      → length (separators_among bytes lines) < length (separators_among bytes (lines ++ line ∷ later))
  separators_among-more lines line later separator =
      let rest = filter (is_separator bytes) (beside_earlier bytes (lines ++ line ∷ []) later) in
      let first = ap (map (λ (beside : List Span × Span). beside.1)) (cond-true (is_separator bytes (lines, line)) ((lines, line) ∷ rest) rest separator) in
      let all : separators_among bytes (lines ++ line ∷ later) ≡ separators_among bytes lines ++ line ∷ map (λ (beside : List Span × Span). beside.1) rest =
      separators_among-append lines (line ∷ later) ∙ ap (λ found. separators_among bytes lines ++ found) first in
      let count = ap length all ∙ length-append (separators_among bytes lines) (line ∷ map (λ (beside : List Span × Span). beside.1) rest) in
      omega (arith, count)

pub spans_after-push : (separators : List Span) (line : Span) (end : ℕ)
    → spans_after (separators ++ line ∷ []) end ≡ spans_after separators line.from ++ record { from = line.to; to = end } ∷ []
spans_after-push [] line end = refl
spans_after-push (first ∷ []) line end = refl
spans_after-push (first ∷ next ∷ lines) line end = ap (λ spans. record { from = first.to; to = next.from } ∷ spans) (spans_after-push (next ∷ lines) line end)

-- one message a separator
pub length-spans_after : (separators : List Span) (end : ℕ) → length (spans_after separators end) ≡ length separators
length-spans_after [] end = refl
length-spans_after (first ∷ []) end = refl
length-spans_after (first ∷ next ∷ lines) end = ap suc (length-spans_after (next ∷ lines) end)
