-- One posting comes into an index: a record where the key has none, and a cell of the message.
use Rattle.std.proofs.Common.{◌≡◌, ◌≢◌, ℕ, zero, suc, ◌+◌, ◌-◌, ◌<◌, Option, Some, None, List, [], ◌∷◌, length, get_or, sym, ◌∙◌, ap, subst, arith, inl, inr}
use Rattle.std.specs.List.{flat_map, range_with_len, sum_by}
use Rattle.std.proofs.lemmas.Bool.{cases_eq}
use Rattle.std.proofs.lemmas.List.{get_or-set_other}
use Rattle.std.proofs.lemmas.List.Sums.{sum_by-cons}
use Rattle.std.proofs.lemmas.List.Elements.{All-contains}
use Rattle.mail_words.specs.Key.{KeyNumbers}
use Rattle.tx_heap.specs.Layout.{Layout}
use Rattle.tx_heap.specs.Segment.{KeyRecord, Row, free_of, records_of, open_rows, HasCell, HaveCells, IsInForm}
use Rattle.tx_heap.specs.Heap.{Heap, own_of, gate_of, segment_of}
use Rattle.tx_heap.specs.Index.{HasLanes, HasCells, rows_in, rows_at, rows_of, own_rows}
use Rattle.tx_heap.specs.BudgetLaw.{own_apart}
use Rattle.tx_heap.proofs.lemmas.FreshSegment.{sum_same}
use Rattle.tx_buckets.specs.Records.{IsFound}
use Rattle.tx_buckets.specs.Growth.{WithRecord, WithCell, IsChangedIn}
use Rattle.tx_postings.specs.Filling.{words_for}
use Rattle.tx_buckets.proofs.lemmas.Growth.{one_record, record_rows, found_with_record, one_row, cells_come, found_with_cell}
use Rattle.tx_buckets.proofs.lemmas.Lists.{OneMore, more_contains, more_length, more_flat}

-- ---- in a segment
-- the words with a posting of the key: a row more, and so many words less
pub record HasPosting (layout : Layout) (key : KeyNumbers) (message : ℕ) (offset : Option ℕ) (old new : List ℕ) : Type 0 where
  pub many : length new ≡ length old
  pub free : free_of new ≡ free_of old + words_for offset
  pub row : OneMore (key, message) (open_rows layout old) (open_rows layout new)
  pub cells : HaveCells layout old → HaveCells layout new
  pub found : (other : KeyNumbers) (at : Option ℕ) → key ≢ other → IsFound layout old other at → IsFound layout new other at

-- a cell of a record that was there
pub known_posting : {layout : Layout} {lane at message : ℕ} {key : KeyNumbers} {old new : List ℕ} → IsInForm layout lane old
    → IsFound layout old key (Some at) → WithCell layout at message old new
    → HasPosting layout key message (Some at) old new
known_posting {layout} {at = at} {message = message} {key = key} {old = old} {new = new} form found grown = record {
  many = grown.many;
  free = grown.free;
  row = subst (λ k. OneMore (k, message) (open_rows layout old) (open_rows layout new)) found.has_key (one_row form grown found.among);
  cells = λ have. cells_come form grown found.among (λ r there other. All-contains HasCell (records_of layout old) r have there);
  found = λ other offset apart is. found_with_cell form grown found.among other offset is;
}

-- a record and its first cell
pub new_posting : {layout : Layout} {lane message : ℕ} {key : KeyNumbers} {old mid new : List ℕ} → layout.bucket_of key < layout.buckets
    → WithRecord layout key old mid → IsInForm layout lane mid → IsFound layout mid key (Some (free_of old))
    → WithCell layout (free_of old) message mid new → HasPosting layout key message None old new
new_posting {layout} {message = message} {key = key} {old = old} {mid = mid} {new = new} in_range first form found grown = record {
  many = grown.many ∙ first.many;
  free = omega (arith, grown.free, first.free);
  row =
      subst (λ rows. OneMore (key, message) rows (open_rows layout new)) (record_rows first in_range)
      (subst (λ k. OneMore (k, message) (open_rows layout mid) (open_rows layout new)) found.has_key (one_row form grown found.among));
  cells = λ have. cells_come form grown found.among (λ r there other.
      elim ((more_contains (one_record first in_range) r).0 there) [
        | inl made ↦ absurd (other (ap (λ (s : KeyRecord). s.at) (sym made)))
        | inr was ↦ All-contains HasCell (records_of layout old) r have was
      ]);
  found = λ other offset apart is. found_with_cell form grown found.among other offset (found_with_record first in_range other offset apart is);
}

-- ---- in an index
-- one element of a list counts one more
sum_one_more : (f g : ℕ → ℕ) (xs : List ℕ) (i : ℕ) → i < length xs → g (get_or xs i 0) ≡ f (get_or xs i 0) + 1
    → ((k : ℕ) → k < length xs → k ≢ i → g (get_or xs k 0) ≡ f (get_or xs k 0)) → sum_by g xs ≡ sum_by f xs + 1
sum_one_more f g [] i below here others = absurd (omega (arith, below))
sum_one_more f g (x ∷ xs) zero below here others =
    let rest = sum_same g f xs (λ k inside. others (suc k) (omega (arith, inside)) (λ e. omega (arith, e))) in
    let first : g x ≡ f x + 1 = here in
    omega (arith, rest, first, sum_by-cons f x xs, sum_by-cons g x xs)
sum_one_more f g (x ∷ xs) (suc i) below here others =
    let rest = sum_one_more f g xs i (omega (arith, below)) here (λ k inside other. others (suc k) (omega (arith, inside)) (λ e. other (omega (arith, e)))) in
    let first : g x ≡ f x = others 0 (omega arith) (λ e. omega (arith, e)) in
    omega (arith, rest, first, sum_by-cons f x xs, sum_by-cons g x xs)

-- the index with a posting of the key in a segment
pub record IsPosted (layout : Layout) (segment : ℕ) (key : KeyNumbers) (message : ℕ) (offset : Option ℕ) (old new : Heap) : Type 0 where
  pub only : IsChangedIn segment old new
  pub words : HasPosting layout key message offset (segment_of old segment) (segment_of new segment)

module _ {layout : Layout} {segment message : ℕ} {key : KeyNumbers} {offset : Option ℕ} {old new : Heap}
    (posted : IsPosted layout segment key message offset old new) where
  pub posted_other : (other : ℕ) → other ≢ segment → segment_of new other ≡ segment_of old other
  posted_other other apart = ap (λ (h : Heap). segment_of h other) posted.only ∙ get_or-set_other old.segments segment other (segment_of new segment) [] apart

  pub posted_gate : (other : ℕ) → gate_of new other ≡ gate_of old other
  posted_gate other = ap (λ (h : Heap). gate_of h other) posted.only

  rows_other : (other : ℕ) → other ≢ segment → rows_at layout new other ≡ rows_at layout old other
  rows_other other apart =
      ap (λ gate. rows_in layout gate (segment_of new other)) (posted_gate other) ∙ ap (rows_in layout (gate_of old other)) (posted_other other apart)

  module _ (is_open : gate_of old segment ≡ 1) where
    rows_here : OneMore (key, message) (rows_at layout old segment) (rows_at layout new segment)
    rows_here =
        subst (λ gate. OneMore (key, message) (rows_in layout gate (segment_of old segment)) (rows_at layout new segment)) (sym is_open)
        (subst (λ gate. OneMore (key, message) (open_rows layout (segment_of old segment)) (rows_in layout gate (segment_of new segment)))
        (sym (posted_gate segment ∙ is_open)) posted.words.row)

    -- one row comes
    pub posted_row : segment < old.pool → OneMore (key, message) (rows_of layout old) (rows_of layout new)
    posted_row used =
        subst (λ pool. OneMore (key, message) (rows_of layout old) (flat_map (rows_at layout new) (range_with_len 0 pool)))
        (sym (ap (λ (h : Heap). h.pool) posted.only))
        (more_flat (rows_at layout old) (rows_at layout new) (key, message) segment 0 old.pool (omega arith) (omega (arith, used)) rows_here
        (λ k from below other. rows_other k other))

    -- and is one of a lane's own segment
    pub posted_own : HasLanes old → (lane : ℕ) → lane < length old.lanes → own_of old lane ≡ segment → own_rows layout new ≡ own_rows layout old + 1
    posted_own lanes lane below own =
        ap (λ (numbers : List ℕ). sum_by (λ number. length (rows_at layout new (number - 1))) numbers) (ap (λ (h : Heap). h.lanes) posted.only)
        ∙ sum_one_more (λ number. length (rows_at layout old (number - 1))) (λ number. length (rows_at layout new (number - 1))) old.lanes lane below
        (subst (λ s. length (rows_at layout new s) ≡ length (rows_at layout old s) + 1) (sym own) (more_length rows_here))
        (λ other inside apart. ap (λ (rows : List Row). length rows)
        (rows_other (own_of old other) (λ e. own_apart old lanes other lane inside below apart (e ∙ sym own))))

    -- each record still has a cell
    pub posted_cells : HasCells layout old → HasCells layout new
    posted_cells have other used not_packed =
        let was_used : other < old.pool = omega (arith, used, ap (λ (h : Heap). h.pool) posted.only) in
        elim (cases_eq other segment) [
          | inl same ↦
              subst (λ s. HaveCells layout (segment_of new s)) (sym same)
              (posted.words.cells (subst (λ s. HaveCells layout (segment_of old s)) same (have other was_used (λ e. not_packed (posted_gate other ∙ e)))))
          | inr apart ↦ subst (HaveCells layout) (sym (posted_other other apart)) (have other was_used (λ e. not_packed (posted_gate other ∙ e)))
        ]
