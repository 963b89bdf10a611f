-- The chains of records and of cells in the words of an open segment.
use Rattle.std.proofs.Common.{◌≡◌, ◌≢◌, ℕ, zero, suc, ◌+◌, ◌<◌, ◌≤◌, ◌==◌, List, [], ◌∷◌, length, map, get_or, refl, sym, ◌∙◌, ap, subst, arith, inl, inr}
use Rattle.std.specs.Prelude.{Contains}
use Rattle.std.proofs.lemmas.Bool.{cases_eq, cond-true, cond-false, eq-eqb, ne_eqb}
use Rattle.mail_words.specs.Key.{KeyNumbers, numbers}
use Rattle.tx_heap.specs.Segment.{chain, next_at, newest_at, Cell, cell_at, cells_from, key_at, KeyRecord, record_at, Piece, pieces_of_record}
use Rattle.tx_heap.proofs.lemmas.Lanes.{contains_first, contains_rest}
use Rattle.tx_buckets.proofs.lemmas.Lists.{contains_map, map_same}

module _ (words : List ℕ) (link : ℕ) where
  pub chain_end : (most at : ℕ) → at ≡ 0 → chain words link most at ≡ []
  chain_end zero at none = refl
  chain_end (suc most) at none = cond-true (at == 0) [] (at ∷ chain words link most (get_or words (at + link) 0)) (eq-eqb at 0 none)

  pub chain_step : (most at : ℕ) → at ≢ 0 → chain words link (suc most) at ≡ at ∷ chain words link most (get_or words (at + link) 0)
  chain_step most at some = cond-false (at == 0) [] (at ∷ chain words link most (get_or words (at + link) 0)) (ne_eqb at 0 some)

  -- where links fall, more steps than the offset find nothing more
  pub chain_long : (most more at : ℕ) → at ≤ most → at ≤ more → ((o : ℕ) → Contains (chain words link most at) o → get_or words (o + link) 0 < o)
      → chain words link most at ≡ chain words link more at
  chain_long zero more at in_most in_more falls = sym (chain_end more at (omega (arith, in_most)))
  chain_long (suc most) zero at in_most in_more falls = chain_end (suc most) at (omega (arith, in_more))
  chain_long (suc most) (suc more) at in_most in_more falls =
      elim (cases_eq at 0) [
        | inl none ↦ chain_end (suc most) at none ∙ sym (chain_end (suc more) at none)
        | inr some ↦
            let next = get_or words (at + link) 0 in
            let step = chain_step most at some in
            let fall = falls at (subst (λ xs. Contains xs at) (sym step) (contains_first at (chain words link most next))) in
            step
            ∙ ap (λ rest. at ∷ rest) (chain_long most more next (omega (arith, fall, in_most)) (omega (arith, fall, in_more))
            (λ o among. falls o (subst (λ xs. Contains xs o) (sym step) (contains_rest at o (chain words link most next) among))))
            ∙ sym (chain_step more at some)
      ]

-- ---- words that stay
-- the words of a piece are the same
abbrev pub SamePiece : List ℕ → List ℕ → Piece → Type 0
SamePiece old new piece = (k : ℕ) → piece.from ≤ k → k < piece.from + piece.len → get_or new k 0 ≡ get_or old k 0

pub same_numbers : {a b c d e f g h : ℕ} → a ≡ e → b ≡ f → c ≡ g → d ≡ h → numbers a b c d ≡ numbers e f g h
same_numbers p q r s = cc

pub same_record : {at next next' : ℕ} {key key' : KeyNumbers} {cells cells' : List Cell} → key ≡ key' → next ≡ next' → cells ≡ cells'
    → ◌≡◌ {A = KeyRecord} (record { at = at; key = key; next = next; cells = cells }) (record { at = at; key = key'; next = next'; cells = cells' })
same_record p q r = cc

pub same_cell_words : {at message message' next next' : ℕ} → message ≡ message' → next ≡ next'
    → ◌≡◌ {A = Cell} (record { at = at; message = message; next = next }) (record { at = at; message = message'; next = next' })
same_cell_words p q = cc

module _ (old new : List ℕ) where
  -- a chain whose links are the same
  pub chain_same : (link most at : ℕ) → ((o : ℕ) → Contains (chain old link most at) o → get_or new (o + link) 0 ≡ get_or old (o + link) 0)
      → chain new link most at ≡ chain old link most at
  chain_same link zero at same = refl
  chain_same link (suc most) at same =
      elim (cases_eq at 0) [
        | inl none ↦ chain_end new link (suc most) at none ∙ sym (chain_end old link (suc most) at none)
        | inr some ↦
            let next = get_or old (at + link) 0 in
            let step = chain_step old link most at some in
            chain_step new link most at some
            ∙ ap (λ n. at ∷ chain new link most n) (same at (subst (λ xs. Contains xs at) (sym step) (contains_first at (chain old link most next))))
            ∙ ap (λ rest. at ∷ rest) (chain_same link most next
            (λ o among. same o (subst (λ xs. Contains xs o) (sym step) (contains_rest at o (chain old link most next) among))))
            ∙ sym step
      ]

  pub same_cell : (at : ℕ) → SamePiece old new (record { from = at; len = 2 }) → cell_at new at ≡ cell_at old at
  same_cell at same =
      let message = same at (omega arith) (omega arith) in
      let next = same (at + 1) (omega arith) (omega arith) in
      cc

  pub same_key : (at : ℕ) → SamePiece old new (record { from = at; len = 4 }) → key_at new at ≡ key_at old at
  same_key at same =
      same_numbers (same at (omega arith) (omega arith)) (same (at + 1) (omega arith) (omega arith)) (same (at + 2) (omega arith) (omega arith))
      (same (at + 3) (omega arith) (omega arith))

  -- cells whose words are the same
  pub same_cells : length new ≡ length old → (newest : ℕ)
      → ((c : Cell) → Contains (cells_from old newest) c → SamePiece old new (record { from = c.at; len = 2 })) → cells_from new newest ≡ cells_from old newest
  same_cells many newest same =
      ap (λ most. map (cell_at new) (chain new 1 most newest)) many
      ∙ ap (map (cell_at new)) (chain_same 1 (length old) newest (λ o among. piece o among (o + 1) (omega arith) (omega arith)))
      ∙ map_same (cell_at new) (cell_at old) (chain old 1 (length old) newest) (λ o among. same_cell o (piece o among))
    where
      piece : (o : ℕ) → Contains (chain old 1 (length old) newest) o → SamePiece old new (record { from = o; len = 2 })
      piece o among = same (cell_at old o) (contains_map (cell_at old) (chain old 1 (length old) newest) o among)

  -- a record whose words, and those of its cells, are the same
  pub same_record_at : length new ≡ length old → (at : ℕ) → ((p : Piece) → Contains (pieces_of_record (record_at old at)) p → SamePiece old new p)
      → record_at new at ≡ record_at old at
  same_record_at many at same =
      let cells = cells_from old (get_or old (at + newest_at) 0) in
      let as_pieces : List Piece = map (λ (c : Cell). record { from = c.at; len = 2 }) cells in
      let own = same (record { from = at; len = 6 }) (contains_first (record { from = at; len = 6 }) as_pieces) in
      same_record (same_key at (λ k from below. own k from (omega (arith, below)))) (own (at + next_at) (omega arith) (omega arith))
      (ap (cells_from new) (own (at + newest_at) (omega arith) (omega arith))
      ∙ same_cells many (get_or old (at + newest_at) 0) (λ c among.
      same (record { from = c.at; len = 2 }) (contains_rest (record { from = at; len = 6 }) (record { from = c.at; len = 2 }) as_pieces
      (contains_map (λ (d : Cell). record { from = d.at; len = 2 }) cells c among))))
