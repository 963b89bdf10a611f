-- A segment stays in form when a record or a cell comes to it, and its rows are those before, with the new one.
use Rattle.std.proofs.Common.{Option, Some, ◌≡◌, ◌≢◌, ℕ, ◌+◌, ◌<◌, ◌≤◌, ◌==◌, List, [], ◌∷◌, ◌++◌, None, length, map, get_or, refl, sym, ◌∙◌, ap, subst, arith, inl, inr}
use Rattle.std.specs.Prelude.{Contains}
use Rattle.std.specs.List.{All, flat_map, range_with_len}
use Rattle.std.proofs.lemmas.Bool.{cases_eq, cond-true, cond-false, eq-eqb, ne_eqb}
use Rattle.std.proofs.lemmas.Grind.{flat_map-append}
use Rattle.std.proofs.lemmas.List.{append_assoc, length-append, map-append}
use Rattle.std.proofs.lemmas.List.Elements.{All-append, All-cons, All-map, All-weaker, All-contains, All-contains_itself, Contains-append_left, Contains-append_right, Contains-append_cases}
use Rattle.mail_words.specs.Key.{KeyNumbers}
use Rattle.tx_heap.specs.Layout.{Layout}
use Rattle.tx_heap.specs.Pairwise.{Pairwise}
use Rattle.tx_heap.specs.Segment.{key_at, Cell, KeyRecord, Piece, free_of, head_at, first_at, newest_at, record_at, bucket, records_of, cells_in, rows_of_record, open_rows, pieces_of_record, pieces_in, LiesWithin, ArePiecesApart, RecordFalls, CellFalls, IsOfBucket, IsOfLane, HaveOtherKeys, HasCell, HaveCells, IsInForm}
use Rattle.tx_heap.proofs.lemmas.FreshSegment.{flat_map_same}
use Rattle.tx_heap.proofs.lemmas.Lanes.{contains_first, contains_rest}
use Rattle.tx_buckets.specs.Records.{IsRecordOf, IsFound}
use Rattle.tx_buckets.specs.Growth.{WithRecord, celled, WithCell}
use Rattle.tx_buckets.proofs.lemmas.Buckets.{record_is, head_below}
use Rattle.tx_buckets.proofs.lemmas.Lists.{contains_map, mapped_from, more_contains, contains_flat, contains_range, map_flat, map_kept, around, All_swap, Pairwise_swap, Pairwise_beside, OneMore, more_all, more_pairwise, more_length, more_flat}

pub apart_turned : (p q : Piece) → ArePiecesApart p q → ArePiecesApart q p
apart_turned p q (inl before) = inr before
apart_turned p q (inr behind) = inl behind

pub keys_turned : (r other : KeyRecord) → HaveOtherKeys r other → HaveOtherKeys other r
keys_turned r other apart same = apart (sym same)

-- what lies below the free offset is apart from what begins there, and lies below a greater one
apart_from_free : (first free len : ℕ) (pieces : List Piece) → All (LiesWithin first free) pieces
    → All (ArePiecesApart (record { from = free; len = len })) pieces
apart_from_free first free len pieces within =
    All-weaker (LiesWithin first free) (ArePiecesApart (record { from = free; len = len })) (λ p lies. inr lies.1) pieces within

within_more : (first free more : ℕ) (pieces : List Piece) → free ≤ more → All (LiesWithin first free) pieces → All (LiesWithin first more) pieces
within_more first free more pieces up within =
    All-weaker (LiesWithin first free) (LiesWithin first more) (λ p lies. (lies.0, omega (arith, lies.1, up))) pieces within

-- ---- a record
module _ {layout : Layout} {key : KeyNumbers} {old new : List ℕ} (grown : WithRecord layout key old new)
    (in_range : layout.bucket_of key < layout.buckets) where
  abbrev made : KeyRecord
  made = record { at = free_of old; key = key; next = get_or old (head_at (layout.bucket_of key)) 0; cells = [] }

  abbrev taken : Piece
  taken = record { from = free_of old; len = 6 }

  -- the records are those before, with the new one among them
  pub one_record : OneMore made (records_of layout old) (records_of layout new)
  one_record =
      more_flat (bucket old) (bucket new) made (layout.bucket_of key) 0 layout.buckets (omega arith) (omega (arith, in_range))
      (record { front = []; back = bucket old (layout.bucket_of key); was = refl; is = grown.here })
      (λ k from below other. grown.others k (omega (arith, below)) other)

  record_piece : OneMore taken (pieces_in (records_of layout old)) (pieces_in (records_of layout new))
  record_piece = record {
    front = pieces_in one_record.front;
    back = pieces_in one_record.back;
    was = ap pieces_in one_record.was ∙ flat_map-append pieces_of_record one_record.front one_record.back;
    is = ap pieces_in one_record.is ∙ flat_map-append pieces_of_record one_record.front (made ∷ one_record.back);
  }

  record_cells : cells_in (records_of layout new) ≡ cells_in (records_of layout old)
  record_cells =
      ap cells_in one_record.is
      ∙ flat_map-append (λ (r : KeyRecord). r.cells) one_record.front (made ∷ one_record.back)
      ∙ sym (flat_map-append (λ (r : KeyRecord). r.cells) one_record.front one_record.back)
      ∙ ap cells_in (sym one_record.was)

  -- the new record is there
  pub record_there : IsRecordOf layout new key (free_of old)
  record_there =
      let here = subst (λ rs. Contains rs made) (sym grown.here) (contains_first made (bucket old (layout.bucket_of key))) in
      let among = contains_flat (bucket new) (range_with_len 0 layout.buckets) (layout.bucket_of key) made
      (contains_range layout.buckets (layout.bucket_of key) in_range) here in
      let is = record_is layout new made among in
      record { among = subst (Contains (records_of layout new)) (sym is) among; has_key = ap (λ (r : KeyRecord). r.key) is }

  -- where another key's record is, it stays
  pub found_with_record : (other : KeyNumbers) (offset : Option ℕ) → key ≢ other → IsFound layout old other offset → IsFound layout new other offset
  found_with_record other None apart missing = λ at is.
      elim ((more_contains one_record (record_at new at)).0 is.among) [
        | inl here ↦ apart (ap (λ (r : KeyRecord). r.key) here ∙ is.has_key)
        | inr there ↦
            let was = record_is layout old (record_at new at) there in
            missing at (record { among = subst (Contains (records_of layout old)) (sym was) there; has_key = ap (λ (r : KeyRecord). r.key) was ∙ is.has_key })
      ]
  found_with_record other (Some at) apart found =
      let there = (more_contains one_record (record_at old at)).1 (inr found.among) in
      let is = record_is layout new (record_at old at) there in
      record { among = subst (Contains (records_of layout new)) (sym is) there; has_key = ap (λ (r : KeyRecord). r.key) is ∙ found.has_key }

  -- the rows are those before
  pub record_rows : open_rows layout new ≡ open_rows layout old
  record_rows =
      ap (flat_map rows_of_record) one_record.is
      ∙ flat_map-append rows_of_record one_record.front (made ∷ one_record.back)
      ∙ sym (flat_map-append rows_of_record one_record.front one_record.back)
      ∙ ap (flat_map rows_of_record) (sym one_record.was)

  module _ {lane : ℕ} (form : IsInForm layout lane old) (of_lane : layout.lane_of key ≡ lane) (missing : IsFound layout old key None)
      (fits : free_of old + 6 ≤ length old) where
    other_keys : All (HaveOtherKeys made) (records_of layout old)
    other_keys =
        All-weaker (Contains (records_of layout old)) (HaveOtherKeys made)
        (λ r among same. missing r.at (record {
          among = subst (Contains (records_of layout old)) (sym (record_is layout old r among)) among;
          has_key = ap (λ (s : KeyRecord). s.key) (record_is layout old r among) ∙ sym same;
        })) (records_of layout old) (All-contains_itself (records_of layout old))

    bucket_kept : (number : ℕ) → number < layout.buckets → All (IsOfBucket layout number) (bucket new number)
    bucket_kept number below =
        elim (cases_eq number (layout.bucket_of key)) [
          | inl same ↦
              subst (λ n. All (IsOfBucket layout n) (bucket new n)) (sym same)
              (subst (All (IsOfBucket layout (layout.bucket_of key))) (sym grown.here)
              (All-cons (IsOfBucket layout (layout.bucket_of key)) made (bucket old (layout.bucket_of key)) refl
              (form.buckets (layout.bucket_of key) in_range)))
          | inr other ↦ subst (All (IsOfBucket layout number)) (sym (grown.others number below other)) (form.buckets number below)
        ]

    -- the segment is in form
    pub form_with_record : IsInForm layout lane new
    form_with_record =
        let records = records_of layout old in
        let falls = head_below form (layout.bucket_of key) in_range in
        record {
          begins = omega (arith, form.begins, grown.free);
          ends = omega (arith, grown.free, grown.many, fits);
          unused = λ at from below. grown.unused at from below ∙ form.unused at from below;
          keys = omega (arith, grown.keys, form.keys, more_length one_record);
          cells = grown.cells ∙ form.cells ∙ ap (λ (cs : List Cell). length cs) (sym record_cells);
          filled = omega (arith, form.filled, grown.free, grown.keys, grown.cells);
          within =
              more_all record_piece (LiesWithin (first_at layout) (free_of new))
              (within_more (first_at layout) (free_of old) (free_of new) (pieces_in records) (omega (arith, grown.free)) form.within)
              (form.begins, omega (arith, grown.free));
          apart = more_pairwise record_piece ArePiecesApart apart_turned form.apart
              (apart_from_free (first_at layout) (free_of old) 6 (pieces_in records) form.within);
          records_fall = more_all one_record RecordFalls form.records_fall falls;
          cells_fall = subst (All CellFalls) (sym record_cells) form.cells_fall;
          buckets = bucket_kept;
          lanes = more_all one_record (IsOfLane layout lane) form.lanes of_lane;
          one_each = more_pairwise one_record HaveOtherKeys keys_turned form.one_each other_keys;
        }

-- ---- a cell
module _ {layout : Layout} {lane at message : ℕ} {old new : List ℕ} (form : IsInForm layout lane old) (grown : WithCell layout at message old new)
    (among : Contains (records_of layout old) (record_at old at)) where
  abbrev add : KeyRecord → KeyRecord
  add = celled old at message

  abbrev known : KeyRecord
  known = record_at old at

  abbrev made_cell : Cell
  made_cell = record { at = free_of old; message = message; next = get_or old (at + newest_at) 0 }

  abbrev longer : KeyRecord
  longer = record { at = at; key = known.key; next = known.next; cells = made_cell ∷ known.cells }

  add_here : add known ≡ longer
  add_here = cond-true (at == at) longer known (eq-eqb at at refl)

  add_other : (r : KeyRecord) → r.at ≢ at → add r ≡ r
  add_other r other = cond-false (r.at == at) _ r (ne_eqb r.at at other)

  -- the key and the link stay
  add_keeps : (P : KeyNumbers → ℕ → ℕ → Type 0) (r : KeyRecord) → P r.key r.at r.next → P (add r).key (add r).at (add r).next
  add_keeps P r is =
      elim (cases_eq r.at at) [
        | inl same ↦ subst (λ (s : KeyRecord). P s.key s.at s.next) (sym (cond-true (r.at == at) _ r (eq-eqb r.at at same))) is
        | inr other ↦ subst (λ (s : KeyRecord). P s.key s.at s.next) (sym (add_other r other)) is
      ]

  records_celled : records_of layout new ≡ map add (records_of layout old)
  records_celled =
      flat_map_same (bucket new) (λ n. map add (bucket old n)) 0 layout.buckets (λ n from below. grown.buckets n (omega (arith, below)))
      ∙ map_flat add (bucket old) (range_with_len 0 layout.buckets)

  -- the records around the known one are others
  abbrev split : (front : List KeyRecord) × (back : List KeyRecord) × (records_of layout old ≡ front ++ known ∷ back)
  split = around (records_of layout old) known among

  beside : (r : KeyRecord) → Contains (split.0 ++ split.1) r → r.at ≢ at
  beside r there same =
      let records = records_of layout old in
      let apart = Pairwise_beside HaveOtherKeys keys_turned split.0 split.1 known (subst (Pairwise HaveOtherKeys) split.2 form.one_each) in
      let inside = subst (λ rs. Contains rs r) (sym split.2) (widen split.0 split.1 there) in
      All-contains (HaveOtherKeys known) (split.0 ++ split.1) r apart there
      (ap (λ o. (record_at old o).key) (sym same) ∙ ap (λ (s : KeyRecord). s.key) (record_is layout old r inside))
    where
      widen : (front back : List KeyRecord) → Contains (front ++ back) r → Contains (front ++ known ∷ back) r
      widen front back there =
          elim (Contains-append_cases front back r there) [
            | inl first ↦ Contains-append_left front (known ∷ back) r first
            | inr last ↦ Contains-append_right front (known ∷ back) r (contains_rest known r back last)
          ]

  records_then : records_of layout new ≡ split.0 ++ longer ∷ split.1
  records_then =
      let (front, back, are) = split in
      records_celled
      ∙ ap (map add) are
      ∙ map-append add front (known ∷ back)
      ∙ ap (λ rs. rs ++ map add (known ∷ back)) (map_kept add front (λ r there. add_other r (beside r (Contains-append_left front back r there))))
      ∙ ap (λ r. front ++ r ∷ map add back) add_here
      ∙ ap (λ rs. front ++ longer ∷ rs) (map_kept add back (λ r there. add_other r (beside r (Contains-append_right front back r there))))

  pub one_cell : OneMore made_cell (cells_in (records_of layout old)) (cells_in (records_of layout new))
  one_cell =
      let (front, back, are) = split in
      record {
        front = cells_in front;
        back = known.cells ++ cells_in back;
        was = ap cells_in are ∙ flat_map-append (λ (r : KeyRecord). r.cells) front (known ∷ back);
        is = ap cells_in records_then ∙ flat_map-append (λ (r : KeyRecord). r.cells) front (longer ∷ back);
      }

  cell_taken : OneMore (record { from = free_of old; len = 2 }) (pieces_in (records_of layout old)) (pieces_in (records_of layout new))
  cell_taken =
      let (front, back, are) = split in
      let own : Piece = record { from = at; len = 6 } in
      record {
        front = pieces_in front ++ own ∷ [];
        back = map (λ (c : Cell). record { from = c.at; len = 2 }) known.cells ++ pieces_in back;
        was = ap pieces_in are ∙ flat_map-append pieces_of_record front (known ∷ back) ∙ sym (append_assoc (pieces_in front) (own ∷ []) _);
        is = ap pieces_in records_then ∙ flat_map-append pieces_of_record front (longer ∷ back) ∙ sym (append_assoc (pieces_in front) (own ∷ []) _);
      }

  -- one row comes: the record's key and the message
  pub one_row : OneMore (known.key, message) (open_rows layout old) (open_rows layout new)
  one_row =
      let (front, back, are) = split in
      record {
        front = flat_map rows_of_record front;
        back = rows_of_record known ++ flat_map rows_of_record back;
        was = ap (flat_map rows_of_record) are ∙ flat_map-append rows_of_record front (known ∷ back);
        is = ap (flat_map rows_of_record) records_then ∙ flat_map-append rows_of_record front (longer ∷ back);
      }

  -- where a key's record is, it stays
  pub found_with_cell : (key : KeyNumbers) (offset : Option ℕ) → IsFound layout old key offset → IsFound layout new key offset
  found_with_cell key None missing = λ o is.
      let (r, there, same) = mapped_from add (records_of layout old) (record_at new o) (subst (λ rs. Contains rs (record_at new o)) records_celled is.among) in
      let was = record_is layout old r there in
      let o_is : r.at ≡ o = add_keeps (λ k a next. r.at ≡ a) r refl ∙ ap (λ (s : KeyRecord). s.at) same in
      let key_is : r.key ≡ key_at new o = add_keeps (λ k a next. r.key ≡ k) r refl ∙ ap (λ (s : KeyRecord). s.key) same in
      missing o (record {
        among = subst (Contains (records_of layout old)) (sym (ap (record_at old) (sym o_is) ∙ was)) there;
        has_key = ap (λ (s : KeyRecord). s.key) (ap (record_at old) (sym o_is) ∙ was) ∙ key_is ∙ is.has_key;
      })
  found_with_cell key (Some o) found =
      let r = record_at old o in
      let there = subst (λ rs. Contains rs (add r)) (sym records_celled) (contains_map add (records_of layout old) r found.among) in
      let o_is : o ≡ (add r).at = add_keeps (λ k a next. o ≡ a) r refl in
      let is = ap (record_at new) o_is ∙ record_is layout new (add r) there in
      record {
        among = subst (Contains (records_of layout new)) (sym is) there;
        has_key = ap (λ (s : KeyRecord). s.key) is ∙ sym (add_keeps (λ k a next. r.key ≡ k) r refl) ∙ found.has_key;
      }

  -- where every other record has a cell, every one has
  pub cells_come : ((r : KeyRecord) → Contains (records_of layout old) r → r.at ≢ at → HasCell r) → HaveCells layout new
  cells_come others =
      let (front, back, are) = split in
      subst (All HasCell) (sym records_then) (have front back are beside)
    where
      have : (front back : List KeyRecord) → records_of layout old ≡ front ++ known ∷ back → ((r : KeyRecord) → Contains (front ++ back) r → r.at ≢ at)
          → All HasCell (front ++ longer ∷ back)
      have front back are apart =
          All-append HasCell front (longer ∷ back)
          (All-weaker (Contains front) HasCell (λ r there. others r (inside (Contains-append_left front (known ∷ back) r there))
          (apart r (Contains-append_left front back r there))) front (All-contains_itself front))
          (All-cons HasCell longer back (λ none. cc)
          (All-weaker (Contains back) HasCell (λ r there. others r (inside (Contains-append_right front (known ∷ back) r (contains_rest known r back there)))
          (apart r (Contains-append_right front back r there))) back (All-contains_itself back)))
        where
          inside : {r : KeyRecord} → Contains (front ++ known ∷ back) r → Contains (records_of layout old) r
          inside {r} there = subst (λ rs. Contains rs r) (sym are) there

  -- the segment is in form
  pub form_with_cell : free_of old + 2 ≤ length old → get_or old (at + newest_at) 0 < free_of old → IsInForm layout lane new
  form_with_cell fits newest =
      let (front, back, are) = split in
      let records = records_of layout old in
      let swapped = λ (P : KeyRecord → Type 0) (then : P known → P longer) (all : All P records). subst (All P) (sym records_then)
      (All_swap P back known longer then front (subst (All P) are all)) in
      record {
        begins = omega (arith, form.begins, grown.free);
        ends = omega (arith, grown.free, grown.many, fits);
        unused = λ offset from below. grown.unused offset from below ∙ form.unused offset from below;
        keys = grown.keys ∙ form.keys ∙ same_many;
        cells = omega (arith, grown.cells, form.cells, more_length one_cell);
        filled = omega (arith, form.filled, grown.free, grown.keys, grown.cells);
        within =
            more_all cell_taken (LiesWithin (first_at layout) (free_of new))
            (within_more (first_at layout) (free_of old) (free_of new) (pieces_in records) (omega (arith, grown.free)) form.within)
            (form.begins, omega (arith, grown.free));
        apart = more_pairwise cell_taken ArePiecesApart apart_turned form.apart
            (apart_from_free (first_at layout) (free_of old) 2 (pieces_in records) form.within);
        records_fall = swapped RecordFalls (λ falls. falls) form.records_fall;
        cells_fall = more_all one_cell CellFalls form.cells_fall newest;
        buckets = λ number below.
            subst (All (IsOfBucket layout number)) (sym (grown.buckets number below))
            (All-map (IsOfBucket layout number) add (bucket old number)
            (All-weaker (IsOfBucket layout number) (λ r. IsOfBucket layout number (add r))
            (λ r is. add_keeps (λ key o next. layout.bucket_of key ≡ number) r is) (bucket old number) (form.buckets number below)));
        lanes = swapped (IsOfLane layout lane) (λ is. is) form.lanes;
        one_each =
            subst (Pairwise HaveOtherKeys) (sym records_then)
            (Pairwise_swap HaveOtherKeys back known longer front (λ r other. other) (λ r other. other) (subst (Pairwise HaveOtherKeys) are form.one_each));
      }
    where
      same_many : length (records_of layout old) ≡ length (records_of layout new)
      same_many = ap (λ (rs : List KeyRecord). length rs) split.2 ∙ length-append split.0 (known ∷ split.1) ∙ sym (length-append split.0 (longer ∷ split.1))
          ∙ ap (λ (rs : List KeyRecord). length rs) (sym records_then)
