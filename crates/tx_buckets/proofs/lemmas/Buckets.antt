-- The records of a bucket of a segment in form.
use Rattle.std.proofs.Common.{◌∙◌, ◌≡◌, ℕ, suc, ◌+◌, ◌-◌, ◌<◌, ◌≤◌, List, length, map, get_or, sym, ap, subst, arith, inl, inr}
use Rattle.std.specs.Prelude.{Contains}
use Rattle.std.specs.List.{range_with_len}
use Rattle.std.proofs.lemmas.Bool.{cases_eq}
use Rattle.std.proofs.lemmas.List.Elements.{All-contains}
use Rattle.tx_heap.specs.Layout.{Layout}
use Rattle.tx_heap.specs.Segment.{Cell, KeyRecord, Piece, chain, free_of, head_at, first_at, next_at, record_at, bucket, records_of, pieces_of_record, pieces_in, LiesWithin, RecordFalls, IsInForm}
use Rattle.tx_heap.proofs.lemmas.Lanes.{contains_first, contains_rest}
use Rattle.tx_buckets.proofs.lemmas.Lists.{contains_map, mapped_from, contains_flat, flat_from, contains_range}
use Rattle.tx_buckets.proofs.lemmas.Chains.{chain_step}

-- a record of the words is the one at its offset
pub record_is : (layout : Layout) (words : List ℕ) (r : KeyRecord) → Contains (records_of layout words) r → record_at words r.at ≡ r
record_is layout words r among =
    let (number, in_range, here) = flat_from (bucket words) (range_with_len 0 layout.buckets) r among in
    let (at, in_chain, is) = mapped_from (record_at words) _ r here in
    ap (λ (s : KeyRecord). record_at words s.at) (sym is) ∙ is

-- ---- the pieces of records
pub piece_among : (records : List KeyRecord) (r : KeyRecord) (p : Piece) → Contains records r → Contains (pieces_of_record r) p → Contains (pieces_in records) p
piece_among records r p among here = contains_flat pieces_of_record records r p among here

pub own_piece : (r : KeyRecord) → Contains (pieces_of_record r) (record { from = r.at; len = 6 })
own_piece r = contains_first (record { from = r.at; len = 6 }) (map (λ (c : Cell). record { from = c.at; len = 2 }) r.cells)

pub cell_piece : (r : KeyRecord) (c : Cell) → Contains r.cells c → Contains (pieces_of_record r) (record { from = c.at; len = 2 })
cell_piece r c among =
    contains_rest (record { from = r.at; len = 6 }) (record { from = c.at; len = 2 }) (map (λ (d : Cell). record { from = d.at; len = 2 }) r.cells)
    (contains_map (λ (d : Cell). record { from = d.at; len = 2 }) r.cells c among)

module _ {layout : Layout} {lane : ℕ} {words : List ℕ} (form : IsInForm layout lane words) where
  pub piece_within : (r : KeyRecord) (p : Piece) → Contains (records_of layout words) r → Contains (pieces_of_record r) p
      → LiesWithin (first_at layout) (free_of words) p
  piece_within r p among here =
      All-contains (LiesWithin (first_at layout) (free_of words)) (pieces_in (records_of layout words)) p form.within
      (piece_among (records_of layout words) r p among here)

  -- ---- the offsets of a bucket
  module _ (number : ℕ) (in_range : number < layout.buckets) where
    abbrev head : ℕ
    head = get_or words (head_at number) 0

    pub record_among : (at : ℕ) → Contains (chain words next_at (length words) head) at → Contains (records_of layout words) (record_at words at)
    record_among at among =
        contains_flat (bucket words) (range_with_len 0 layout.buckets) number (record_at words at) (contains_range layout.buckets number in_range)
        (contains_map (record_at words) (chain words next_at (length words) head) at among)

    -- a record lies whole between the heads and the free offset, and its link falls
    pub record_whole : (at : ℕ) → Contains (chain words next_at (length words) head) at → (first_at layout ≤ at) × (at + 6 ≤ free_of words)
    record_whole at among = piece_within (record_at words at) (record { from = at; len = 6 }) (record_among at among) (own_piece (record_at words at))

    pub record_falls : (at : ℕ) → Contains (chain words next_at (length words) head) at → get_or words (at + next_at) 0 < at
    record_falls at among = All-contains RecordFalls (records_of layout words) (record_at words at) form.records_fall (record_among at among)

    -- the newest record lies below the free offset
    pub head_below : head < free_of words
    head_below =
        elim (cases_eq head 0) [
          | inl none ↦ omega (arith, none, form.begins)
          | inr some ↦
              let size : length words ≡ suc (length words - 1) = omega (arith, form.begins, form.ends) in
              let among = subst (λ most. Contains (chain words next_at most head) head) (sym size)
              (subst (λ xs. Contains xs head) (sym (chain_step words next_at (length words - 1) head some))
              (contains_first head (chain words next_at (length words - 1) (get_or words (head + next_at) 0)))) in
              let whole = record_whole head among in
              omega (arith, whole.1)
        ]
