-- What the writes of a cell leave of a segment's words.
use Rattle.std.proofs.Common.{◌≡◌, ◌≢◌, ℕ, suc, ◌+◌, ◌-◌, ◌<◌, ◌≤◌, ◌⊎◌, ◌==◌, List, [], ◌∷◌, length, map, get_or, refl, sym, ◌∙◌, ap, subst, arith, inl, inr}
use Rattle.std.specs.Prelude.{Contains}
use Rattle.std.proofs.lemmas.Bool.{cases_eq, cond-true, cond-false, eq-eqb, ne_eqb}
use Rattle.std.proofs.lemmas.List.Elements.{All-contains}
use Rattle.tx_model.specs.declared.word.Word.{Word}
use Rattle.tx_model.specs.Memory.{after}
use Rattle.tx_model.proofs.lemmas.States.{after_length}
use Rattle.tx_heap.specs.Layout.{Layout}
use Rattle.tx_heap.specs.Segment.{Cell, KeyRecord, Piece, chain, free_of, cells_of, head_at, first_at, next_at, newest_at, cell_at, cells_from, record_at, bucket, records_of, cells_in, pieces_of_record, pieces_in, ArePiecesApart, CellFalls, IsInForm}
use Rattle.tx_heap.proofs.lemmas.Lanes.{contains_first, contains_cases}
use Rattle.tx_buckets.specs.Growth.{celled, WithCell}
use Rattle.tx_buckets.specs.Writing.{word, cell_words}
use Rattle.tx_buckets.proofs.Placing.{Avoids, after_other, after_here}
use Rattle.tx_buckets.proofs.lemmas.Buckets.{piece_within, piece_among, own_piece, cell_piece, record_among}
use Rattle.tx_buckets.proofs.lemmas.Chains.{SamePiece, chain_step, chain_long, chain_same, same_cell, same_cell_words, same_key, same_record, same_record_at}
use Rattle.tx_buckets.proofs.lemmas.Growth.{apart_turned}
use Rattle.tx_buckets.proofs.lemmas.Lists.{contains_map, mapped_from, contains_flat, map_same, map_map, Pairwise_members}

module _ {layout : Layout} {lane : ℕ} {old : List ℕ} (form : IsInForm layout lane old) (offset message : ℕ)
    (among : Contains (records_of layout old) (record_at old offset)) (fits : free_of old + 2 ≤ length old) where
  abbrev at : ℕ
  at = free_of old

  abbrev newest : ℕ
  newest = get_or old (offset + newest_at) 0

  abbrev writes : List Word
  writes = cell_words at offset newest (cells_of old) message

  abbrev new : List ℕ
  new = after old writes

  abbrev own : Piece
  own = record { from = offset; len = 6 }

  begins : 8 + layout.buckets ≤ at
  begins = form.begins

  many : length new ≡ length old
  many = after_length old writes

  -- the record lies whole below the free offset
  pub offset_within : (first_at layout ≤ offset) × (offset + 6 ≤ at)
  offset_within = piece_within form (record_at old offset) own among (own_piece (record_at old offset))

  -- ---- words that stay
  stays : (k : ℕ) → k < at → k ≢ offset + 5 → k ≢ 0 → k ≢ 2 → get_or new k 0 ≡ get_or old k 0
  stays k below other not_free not_cells =
      let apart : Avoids writes k = (
        (λ e. omega (arith, e, below)),
        ((λ e. omega (arith, e, below)), ((λ e. other (sym e)), ((λ e. not_free (sym e)), ((λ e. not_cells (sym e)), tt)))),
      ) in
      after_other old writes k apart

  -- of a piece that is apart from the record's own
  same_piece : (p : Piece) → first_at layout ≤ p.from → p.from + p.len ≤ at → ArePiecesApart own p → SamePiece old new p
  same_piece p from to apart k here below =
      stays k (omega (arith, below, to)) (not_offset apart) (λ e. omega (arith, e, here, from)) (λ e. omega (arith, e, here, from))
    where
      not_offset : ArePiecesApart own p → k ≢ offset + 5
      not_offset (inl before) e = omega (arith, e, before, here)
      not_offset (inr behind) e = omega (arith, e, behind, below)

  -- a piece of a record is the record's own or apart from it
  beside : (r : KeyRecord) (p : Piece) → Contains (records_of layout old) r → Contains (pieces_of_record r) p → (own ≡ p) ⊎ ArePiecesApart own p
  beside r p there here =
      Pairwise_members ArePiecesApart apart_turned (pieces_in (records_of layout old)) own p form.apart
      (piece_among (records_of layout old) (record_at old offset) own among (own_piece (record_at old offset)))
      (piece_among (records_of layout old) r p there here)

  -- the cells' pieces are
  cells_apart : (r : KeyRecord) (c : Cell) → Contains (records_of layout old) r → Contains r.cells c → ArePiecesApart own (record { from = c.at; len = 2 })
  cells_apart r c there here =
      elim (beside r (record { from = c.at; len = 2 }) there (cell_piece r c here)) [
        | inl same ↦ absurd (omega (arith, ap (λ (p : Piece). p.len) same))
        | inr apart ↦ apart
      ]

  -- and those of other records
  others_apart : (o : ℕ) → o ≢ offset → Contains (records_of layout old) (record_at old o) → (p : Piece) → Contains (pieces_of_record (record_at old o)) p
      → ArePiecesApart own p
  others_apart o other there p here =
      elim (beside (record_at old o) p there here) [
        | inl same ↦
            elim (contains_cases (record { from = o; len = 6 }) p _ here) [
              | inl is ↦ absurd (other (ap (λ (q : Piece). q.from) (is ∙ sym same)))
              | inr later ↦ let (c, c_there, is) = mapped_from (λ (d : Cell). record { from = d.at; len = 2 }) (record_at old o).cells p later in absurd
                  (omega (arith, ap (λ (q : Piece). q.len) (is ∙ sym same)))
            ]
        | inr apart ↦ apart
      ]

  other_record : (o : ℕ) → o ≢ offset → Contains (records_of layout old) (record_at old o) → record_at new o ≡ record_at old o
  other_record o other there =
      same_record_at old new many o (λ p here. let within = piece_within form (record_at old o) p there here in same_piece p within.0 within.1
      (others_apart o other there p here))

  -- ---- the new words
  message_is : get_or new at 0 ≡ message
  message_is =
      let back : List Word = word (at + 1) newest ∷ word (offset + 5) at ∷ word 0 (at + 2) ∷ word 2 (cells_of old + 1) ∷ [] in
      let apart : Avoids back at = (
        (λ e. omega (arith, e)),
        ((λ e. omega (arith, e, offset_within.1)), ((λ e. omega (arith, e, begins)), ((λ e. omega (arith, e, begins)), tt))),
      ) in
      after_here old [] (word at message) back (omega (arith, fits)) apart

  next_is : get_or new (at + 1) 0 ≡ newest
  next_is =
      let back : List Word = word (offset + 5) at ∷ word 0 (at + 2) ∷ word 2 (cells_of old + 1) ∷ [] in
      let apart : Avoids back (at + 1) = ((λ e. omega (arith, e, offset_within.1)), ((λ e. omega (arith, e, begins)), ((λ e. omega (arith, e, begins)), tt))) in
      after_here old (word at message ∷ []) (word (at + 1) newest) back (omega (arith, fits)) apart

  newest_is : get_or new (offset + 5) 0 ≡ at
  newest_is =
      let back : List Word = word 0 (at + 2) ∷ word 2 (cells_of old + 1) ∷ [] in
      let apart : Avoids back (offset + 5) = ((λ e. omega (arith, e)), ((λ e. omega (arith, e)), tt)) in
      after_here old (word at message ∷ word (at + 1) newest ∷ []) (word (offset + 5) at) back (omega (arith, fits, offset_within.1)) apart

  free_is : get_or new 0 0 ≡ at + 2
  free_is =
      let back : List Word = word 2 (cells_of old + 1) ∷ [] in
      let apart : Avoids back 0 = ((λ e. omega (arith, e)), tt) in
      after_here old (word at message ∷ word (at + 1) newest ∷ word (offset + 5) at ∷ []) (word 0 (at + 2)) back (omega (arith, fits)) apart

  cells_are : get_or new 2 0 ≡ cells_of old + 1
  cells_are =
      after_here old (word at message ∷ word (at + 1) newest ∷ word (offset + 5) at ∷ word 0 (at + 2) ∷ []) (word 2 (cells_of old + 1)) []
      (omega (arith, fits, begins)) tt

  -- ---- the record with its new cell
  cell_falls : (o : ℕ) → Contains (chain old 1 (length old) newest) o → get_or old (o + 1) 0 < o
  cell_falls o there =
      All-contains CellFalls (cells_in (records_of layout old)) (cell_at old o) form.cells_fall
      (contains_flat (λ (r : KeyRecord). r.cells) (records_of layout old) (record_at old offset) (cell_at old o) among
      (contains_map (cell_at old) (chain old 1 (length old) newest) o there))

  cell_within : (o : ℕ) → Contains (chain old 1 (length old) newest) o → SamePiece old new (record { from = o; len = 2 })
  cell_within o there =
      let inside = contains_map (cell_at old) (chain old 1 (length old) newest) o there in
      let within = piece_within form (record_at old offset) (record { from = o; len = 2 }) among (cell_piece (record_at old offset) (cell_at old o) inside) in
      same_piece (record { from = o; len = 2 }) within.0 within.1 (cells_apart (record_at old offset) (cell_at old o) among inside)

  -- the newest cell lies below the free offset
  pub newest_below : newest < at
  newest_below =
      elim (cases_eq newest 0) [
        | inl none ↦ omega (arith, none, begins)
        | inr some ↦
            let size : length old ≡ suc (length old - 1) = omega (arith, fits) in
            let there = subst (λ most. Contains (chain old 1 most newest) newest) (sym size)
            (subst (λ xs. Contains xs newest) (sym (chain_step old 1 (length old - 1) newest some))
            (contains_first newest (chain old 1 (length old - 1) (get_or old (newest + 1) 0)))) in
            let inside = contains_map (cell_at old) (chain old 1 (length old) newest) newest there in
            let within = piece_within form (record_at old offset) (record { from = newest; len = 2 }) among
            (cell_piece (record_at old offset) (cell_at old newest) inside) in
            omega (arith, within.1)
      ]

  older_cells : map (cell_at new) (chain new 1 (length old - 1) newest) ≡ cells_from old newest
  older_cells =
      let long = chain_long old 1 (length old) (length old - 1) newest (omega (arith, newest_below, fits)) (omega (arith, newest_below, fits)) cell_falls in
      ap (map (cell_at new)) (chain_same old new 1 (length old - 1) newest
      (λ o there. cell_within o (subst (λ xs. Contains xs o) (sym long) there) (o + 1) (omega arith) (omega arith)) ∙ sym long)
      ∙ map_same (cell_at new) (cell_at old) (chain old 1 (length old) newest) (λ o there. same_cell old new o (cell_within o there))

  cells_then : cells_from new (get_or new (offset + newest_at) 0) ≡ record { at = at; message = message; next = newest } ∷ cells_from old newest
  cells_then =
      let size : length new ≡ suc (length old - 1) = omega (arith, many, fits) in
      let some : at ≢ 0 = λ e. omega (arith, e, begins) in
      let here : cell_at new at ≡ record { at = at; message = message; next = newest } = same_cell_words message_is next_is in
      ap (cells_from new) newest_is
      ∙ ap (λ most. map (cell_at new) (chain new 1 most at)) size
      ∙ ap (map (cell_at new)) (chain_step new 1 (length old - 1) at some)
      ∙ ap (λ c. c ∷ map (cell_at new) (chain new 1 (length old - 1) (get_or new (at + 1) 0))) here
      ∙ ap (λ n. record { at = at; message = message; next = newest } ∷ map (cell_at new) (chain new 1 (length old - 1) n)) next_is
      ∙ ap (λ cs. record { at = at; message = message; next = newest } ∷ cs) older_cells

  own_word : (k : ℕ) → offset ≤ k → k < offset + 5 → get_or new k 0 ≡ get_or old k 0
  own_word k from below = stays k (omega (arith, below, offset_within.1)) (λ e. omega (arith, e, below)) (λ e. omega (arith, e, from, offset_within.0))
      (λ e. omega (arith, e, from, offset_within.0))

  own_record : record_at new offset ≡ celled old offset message (record_at old offset)
  own_record =
      same_record (same_key old new offset (λ k from below. own_word k from (omega (arith, below))))
      (own_word (offset + next_at) (omega arith) (omega arith)) cells_then
      ∙ sym (cond-true (offset == offset) _ (record_at old offset) (eq-eqb offset offset refl))

  each_record : (o : ℕ) → Contains (records_of layout old) (record_at old o) → record_at new o ≡ celled old offset message (record_at old o)
  each_record o there =
      elim (cases_eq o offset) [
        | inl same ↦ subst (λ p. record_at new p ≡ celled old offset message (record_at old p)) (sym same) own_record
        | inr other ↦ other_record o other there ∙ sym (cond-false (o == offset) _ (record_at old o) (ne_eqb o offset other))
      ]

  -- ---- the buckets
  link_stays : (o : ℕ) → Contains (records_of layout old) (record_at old o) → get_or new (o + next_at) 0 ≡ get_or old (o + next_at) 0
  link_stays o there =
      elim (cases_eq o offset) [
        | inl same ↦ subst (λ p. get_or new (p + next_at) 0 ≡ get_or old (p + next_at) 0) (sym same) (own_word (offset + next_at) (omega arith) (omega arith))
        | inr other ↦
            let p : Piece = record { from = o; len = 6 } in
            let here = own_piece (record_at old o) in
            let within = piece_within form (record_at old o) p there here in
            same_piece p within.0 within.1 (others_apart o other there p here) (o + next_at) (omega arith) (omega arith)
      ]

  each_bucket : (number : ℕ) → number < layout.buckets → bucket new number ≡ map (celled old offset message) (bucket old number)
  each_bucket number below =
      let from = get_or old (head_at number) 0 in
      ap (λ n. map (record_at new) (chain new next_at (length new) n))
      (stays (head_at number) (omega (arith, begins, below)) (λ e. omega (arith, e, below, offset_within.0)) (λ e. omega (arith, e)) (λ e. omega (arith, e)))
      ∙ ap (λ most. map (record_at new) (chain new next_at most from)) many
      ∙ ap (map (record_at new)) (chain_same old new next_at (length old) from (λ o there. link_stays o (record_among form number below o there)))
      ∙ map_same (record_at new) (λ o. celled old offset message (record_at old o)) (chain old next_at (length old) from)
      (λ o there. each_record o (record_among form number below o there))
      ∙ sym (map_map (record_at old) (celled old offset message) (chain old next_at (length old) from))

  pub cell_placed : WithCell layout offset message old new
  cell_placed = record {
    many = many;
    free = free_is;
    keys = stays 1 (omega (arith, begins)) (λ e. omega (arith, e, offset_within.0)) (λ e. omega (arith, e)) (λ e. omega (arith, e));
    cells = cells_are;
    unused = λ k from below. stays k (omega (arith, begins, below)) (λ e. omega (arith, e, below, offset_within.0)) (λ e. omega (arith, e, from))
        (λ e. omega (arith, e, from));
    buckets = each_bucket;
  }
