-- A walk along the cells of a record.
use Rattle.std.proofs.Common.{◌≡◌, ◌≢◌, ℕ, suc, ◌+◌, ◌-◌, ◌<◌, ◌≤◌, List, [], ◌∷◌, ◌++◌, length, map, get_or, refl, sym, ◌∙◌, ap, subst, arith}
use Rattle.std.specs.Prelude.{Contains}
use Rattle.std.proofs.lemmas.List.{append-nil, append_assoc, map-append}
use Rattle.std.proofs.lemmas.List.Elements.{All-contains, Contains-append_right}
use Rattle.mail_words.specs.Key.{KeyNumbers}
use Rattle.tx_heap.specs.Layout.{Layout}
use Rattle.tx_heap.specs.Segment.{Cell, KeyRecord, chain, free_of, first_at, newest_at, cell_at, record_at, records_of, cells_in, CellFalls, IsInForm}
use Rattle.tx_heap.proofs.lemmas.Lanes.{contains_first, contains_rest}
use Rattle.tx_buckets.specs.Records.{IsRecordOf}
use Rattle.tx_buckets.proofs.lemmas.Buckets.{piece_within, cell_piece}
use Rattle.tx_buckets.proofs.lemmas.Lists.{contains_map, contains_flat}
use Rattle.tx_buckets.proofs.lemmas.Chains.{chain_end, chain_step, chain_long}

-- the cells of the record in front of the next one have these messages
pub record IsWalk (words : List ℕ) (offset cell : ℕ) (messages : List ℕ) : Type 0 where
  pub passed : List ℕ
  pub split : chain words 1 (length words) (get_or words (offset + newest_at) 0) ≡ passed ++ chain words 1 (length words) cell
  pub are : messages ≡ map (λ at. get_or words at 0) passed

pub walk_begins : (words : List ℕ) (offset : ℕ) → IsWalk words offset (get_or words (offset + newest_at) 0) []
walk_begins words offset = record { passed = []; split = refl; are = refl }

map_map_messages : (words offsets : List ℕ) → map (λ (c : Cell). c.message) (map (cell_at words) offsets) ≡ map (λ at. get_or words at 0) offsets
map_map_messages words [] = refl
map_map_messages words (at ∷ offsets) = ap (λ rest. get_or words at 0 ∷ rest) (map_map_messages words offsets)

module _ {layout : Layout} {lane : ℕ} {words : List ℕ} (form : IsInForm layout lane words) {key : KeyNumbers} {offset : ℕ}
    (here : IsRecordOf layout words key offset) where
  abbrev offsets : ℕ → List ℕ
  offsets at = chain words 1 (length words) at

  abbrev newest : ℕ
  newest = get_or words (offset + newest_at) 0

  -- ---- a cell of the record
  module _ (cell : ℕ) (among : Contains (offsets newest) cell) where
    is_cell : Contains (record_at words offset).cells (cell_at words cell)
    is_cell = contains_map (cell_at words) (offsets newest) cell among

    pub cell_whole : (first_at layout ≤ cell) × (cell + 2 ≤ free_of words)
    cell_whole =
        piece_within form (record_at words offset) (record { from = cell; len = 2 }) here.among
        (cell_piece (record_at words offset) (cell_at words cell) is_cell)

    pub cell_falls : get_or words (cell + 1) 0 < cell
    cell_falls =
        All-contains CellFalls (cells_in (records_of layout words)) (cell_at words cell) form.cells_fall
        (contains_flat (λ (r : KeyRecord). r.cells) (records_of layout words) (record_at words offset) (cell_at words cell) here.among is_cell)

  -- ---- the walk
  module _ {cell : ℕ} {messages : List ℕ} (walk : IsWalk words offset cell messages) where
    within : (at : ℕ) → Contains (offsets cell) at → Contains (offsets newest) at
    within at among = subst (λ xs. Contains xs at) (sym walk.split) (Contains-append_right walk.passed (offsets cell) at among)

    -- all cells were passed
    pub walk_ended : cell ≡ 0 → messages ≡ map (λ (c : Cell). c.message) (record_at words offset).cells
    walk_ended none =
        let all = walk.split ∙ ap (λ rest. walk.passed ++ rest) (chain_end words 1 (length words) cell none) ∙ append-nil walk.passed in
        walk.are ∙ ap (map (λ at. get_or words at 0)) (sym all) ∙ sym (map_map_messages words (offsets newest))

    module _ (some : cell ≢ 0) where
      size : length words ≡ suc (length words - 1)
      size = omega (arith, form.begins, form.ends)

      step : offsets cell ≡ cell ∷ chain words 1 (length words - 1) (get_or words (cell + 1) 0)
      step = ap (λ most. chain words 1 most cell) size ∙ chain_step words 1 (length words - 1) cell some

      at_cell : Contains (offsets newest) cell
      at_cell = within cell (subst (λ xs. Contains xs cell) (sym step) (contains_first cell (chain words 1 (length words - 1) (get_or words (cell + 1) 0))))

      pub next_whole : (first_at layout ≤ cell) × (cell + 2 ≤ free_of words)
      next_whole = cell_whole cell at_cell

      pub next_falls : get_or words (cell + 1) 0 < cell
      next_falls = cell_falls cell at_cell

      rest_is : offsets cell ≡ cell ∷ offsets (get_or words (cell + 1) 0)
      rest_is =
          let next = get_or words (cell + 1) 0 in
          let falls = next_falls in
          let whole = next_whole in
          step
          ∙ ap (λ rest. cell ∷ rest)
          (chain_long words 1 (length words - 1) (length words) next (omega (arith, falls, whole.1, form.ends)) (omega (arith, falls, whole.1, form.ends))
          (λ at among.
          cell_falls at (within at (subst (λ xs. Contains xs at) (sym step) (contains_rest cell at (chain words 1 (length words - 1) next) among)))))

      pub walk_next : IsWalk words offset (get_or words (cell + 1) 0) (messages ++ get_or words cell 0 ∷ [])
      walk_next = record {
        passed = walk.passed ++ cell ∷ [];
        split = walk.split ∙ ap (λ rest. walk.passed ++ rest) rest_is ∙ sym (append_assoc walk.passed (cell ∷ []) (offsets (get_or words (cell + 1) 0)));
        are = ap (λ ms. ms ++ get_or words cell 0 ∷ []) walk.are ∙ sym (map-append (λ at. get_or words at 0) walk.passed (cell ∷ []));
      }
