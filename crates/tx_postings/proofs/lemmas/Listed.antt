-- The messages of a key are those of its rows, where no segment is packed.
use Rattle.std.proofs.Common.{◌≡◌, ◌↔◌, ℕ, ◌<◌, ◌==◌, List, [], ◌∷◌, length, map, get_or, sym, ◌∙◌, ap, subst, arith, inl, inr}
use Rattle.std.specs.Prelude.{Contains}
use Rattle.std.specs.List.{range_with_len}
use Rattle.std.proofs.lemmas.Bool.{cond-false, ne_eqb}
use Rattle.std.proofs.lemmas.List.Elements.{All-contains, Contains-append_left, Contains-append_right, Contains-append_cases}
use Rattle.mail_words.specs.Key.{KeyNumbers}
use Rattle.tx_model.specs.declared.gate.TheConstants.{GATE_PACKED}
use Rattle.tx_heap.specs.Layout.{Layout}
use Rattle.tx_heap.specs.Segment.{Cell, KeyRecord, Row, record_at, records_of, rows_of_record, open_rows, HaveOtherKeys, IsOfLane, IsInForm}
use Rattle.tx_heap.specs.Packed.{packed_rows}
use Rattle.tx_heap.specs.Heap.{Heap, gate_of, segment_of, lane_segments}
use Rattle.tx_heap.specs.Index.{IsSegment, IsIndex, rows_at, rows_of}
use Rattle.tx_heap.proofs.lemmas.Lanes.{contains_none, contains_first, contains_rest, contains_cases, chain_below}
use Rattle.tx_buckets.proofs.lemmas.Buckets.{record_is}
use Rattle.tx_buckets.proofs.lemmas.Growth.{keys_turned}
use Rattle.tx_buckets.proofs.lemmas.Lists.{contains_map, mapped_from, contains_flat, flat_from, contains_range, range_below, Pairwise_members}
use Rattle.tx_postings.specs.Laws.{HasNonePacked}
use Rattle.tx_postings.specs.Listing.{AreOfRecord, AreOfSegment, AreOfSegments, AreListed}

-- ---- in one segment
abbrev messages_of : KeyRecord → List ℕ
messages_of r = map (λ (c : Cell). c.message) r.cells

-- a row of the record
row_of : (r : KeyRecord) (key : KeyNumbers) (message : ℕ) → r.key ≡ key → Contains (messages_of r) message → Contains (rows_of_record r) (key, message)
row_of r key message has among =
    let (cell, is, same) = mapped_from (λ (c : Cell). c.message) r.cells message among in
    subst (λ (row : Row). Contains (rows_of_record r) row) (same_row has same) (contains_map (λ (c : Cell). (r.key, c.message)) r.cells cell is)
  where
    same_row : {one two : KeyNumbers} {m n : ℕ} → one ≡ two → m ≡ n → ◌≡◌ {A = Row} (one, m) (two, n)
    same_row {one} {two} {m} {n} p q = ap (λ (k : KeyNumbers). (k, m)) p ∙ ap (λ (x : ℕ). (two, x)) q

message_of : (r : KeyRecord) (key : KeyNumbers) (message : ℕ) → Contains (rows_of_record r) (key, message) → (r.key ≡ key) × Contains (messages_of r) message
message_of r key message among =
    let (cell, is, same) = mapped_from (λ (c : Cell). (r.key, c.message)) r.cells (key, message) among in
    (ap (λ (row : Row). row.0) same, subst (Contains (messages_of r)) (ap (λ (row : Row). row.1) same) (contains_map (λ (c : Cell). c.message) r.cells cell is))

module _ {layout : Layout} {key : KeyNumbers} where
  pub record_rows : {words messages : List ℕ} → AreOfRecord layout words key messages → (message : ℕ) → Contains messages message
      → Contains (open_rows layout words) (key, message)
  record_rows {words} (inl (at, is, are)) message among =
      contains_flat rows_of_record (records_of layout words) (record_at words at) (key, message) is.among
      (row_of (record_at words at) key message is.has_key (subst (λ ms. Contains ms message) are among))
  record_rows (inr (none, are)) message among = absurd (contains_none message (subst (λ ms. Contains ms message) are among))

  -- the record of a row
  pub row_record : {lane : ℕ} {words messages : List ℕ} → IsInForm layout lane words → AreOfRecord layout words key messages → (message : ℕ)
      → Contains (open_rows layout words) (key, message) → Contains messages message
  row_record {words = words} {messages = messages} form are message among =
      let (r, of_segment, in_record) = flat_from rows_of_record (records_of layout words) (key, message) among in
      let (has, here) = message_of r key message in_record in
      of_record r of_segment has here are
    where
      of_record : (r : KeyRecord) → Contains (records_of layout words) r → r.key ≡ key → Contains (messages_of r) message
          → AreOfRecord layout words key messages → Contains messages message
      of_record r of_segment has here (inl (at, is, listed)) =
          elim (Pairwise_members HaveOtherKeys keys_turned (records_of layout words) r (record_at words at) form.one_each of_segment is.among) [
            | inl same ↦ subst (λ ms. Contains ms message) (sym listed) (subst (λ (other : KeyRecord). Contains (messages_of other) message) same here)
            | inr other ↦ absurd (other (has ∙ sym is.has_key))
          ]
      of_record r of_segment has here (inr (none, listed)) =
          let is = record_is layout words r of_segment in
          absurd (none r.at
          (record { among = subst (Contains (records_of layout words)) (sym is) of_segment; has_key = ap (λ (other : KeyRecord). other.key) is ∙ has }))

  -- ---- in several segments
  module _ (heap : Heap) where
    -- a message is that of a segment
    pub some_segment : (segments messages : List ℕ) → AreOfSegments layout key heap segments messages → (message : ℕ) → Contains messages message
        → (segment : ℕ) × (here : List ℕ) × Contains segments segment × AreOfSegment layout key heap segment here × Contains here message
    some_segment [] messages none message among = absurd (contains_none message (subst (λ ms. Contains ms message) none among))
    some_segment (first ∷ segments) messages (here, rest, both, of_first, of_rest) message among =
        elim (Contains-append_cases here rest message (subst (λ ms. Contains ms message) both among)) [
          | inl now ↦ (first, here, contains_first first segments, of_first, now)
          | inr later ↦
              let (segment, own, is, of_segment, in_own) = some_segment segments rest of_rest message later in
              (segment, own, contains_rest first segment segments is, of_segment, in_own)
        ]

    -- the messages of each segment came
    each_segment : (segments messages : List ℕ) → AreOfSegments layout key heap segments messages → (segment : ℕ) → Contains segments segment
        → (here : List ℕ) × AreOfSegment layout key heap segment here × ((message : ℕ) → Contains here message → Contains messages message)
    each_segment [] messages none segment is = absurd (contains_none segment is)
    each_segment (first ∷ segments) messages (here, rest, both, of_first, of_rest) segment is =
        elim (contains_cases first segment segments is) [
          | inl same ↦ (
            here,
            subst (λ s. AreOfSegment layout key heap s here) same of_first,
            λ message among. subst (λ ms. Contains ms message) (sym both)
                (Contains-append_left here rest message among),
          )
          | inr later ↦
              let (own, of_segment, came) = each_segment segments rest of_rest segment later in
              (own, of_segment, λ message among. subst (λ ms. Contains ms message) (sym both) (Contains-append_right here rest message (came message among)))
        ]

-- ---- in the index

module _ {layout : Layout} {heap : Heap} (index : IsIndex layout heap) (open_or_sealed : HasNonePacked heap) where
  rows_here : (segment : ℕ) → segment < heap.pool → rows_at layout heap segment ≡ open_rows layout (segment_of heap segment)
  rows_here segment used =
      cond-false (gate_of heap segment == GATE_PACKED) (packed_rows (segment_of heap segment)) (open_rows layout (segment_of heap segment))
      (ne_eqb (gate_of heap segment) GATE_PACKED (open_or_sealed segment used))

  module _ (key : KeyNumbers) (below : layout.lane_of key < length heap.lanes) (messages : List ℕ) (listed : AreListed layout key heap messages) where
    used_of_lane : (segment : ℕ) → Contains (lane_segments heap (layout.lane_of key)) segment → segment < heap.pool
    used_of_lane segment among =
        let own = index.lanes.own (layout.lane_of key) below in
        omega (arith, own.1, chain_below heap heap.pool index.lanes.fall (length heap.segments) (get_or heap.lanes (layout.lane_of key) 0) segment own.1 among)

    has_row : (message : ℕ) → Contains messages message → Contains (rows_of layout heap) (key, message)
    has_row message among =
        let (segment, here, of_lane, of_segment, in_here) = some_segment heap (lane_segments heap (layout.lane_of key)) messages listed message among in
        by_gate segment here (used_of_lane segment of_lane) in_here of_segment
      where
        by_gate : (segment : ℕ) (here : List ℕ) → segment < heap.pool → Contains here message → AreOfSegment layout key heap segment here
            → Contains (rows_of layout heap) (key, message)
        by_gate segment here used in_here (inl (is_open, are)) =
            contains_flat (rows_at layout heap) (range_with_len 0 heap.pool) segment (key, message) (contains_range heap.pool segment used)
            (subst (λ (rows : List Row). Contains rows (key, message)) (sym (rows_here segment used)) (record_rows are message in_here))
        by_gate segment here used in_here (inr (is_packed, none)) = absurd (open_or_sealed segment used is_packed)

    is_listed : (message : ℕ) → Contains (rows_of layout heap) (key, message) → Contains messages message
    is_listed message row =
        let (segment, in_range, in_segment) = flat_from (rows_at layout heap) (range_with_len 0 heap.pool) (key, message) row in
        let used = range_below heap.pool segment in_range in
        let (lane, lane_there, of_lane) = index.lanes.reached segment used in
        by_form segment lane used of_lane (subst (λ (rows : List Row). Contains rows (key, message)) (rows_here segment used) in_segment)
        (index.segments lane segment lane_there of_lane)
      where
        in_lane : (segment : ℕ) → segment < heap.pool → Contains (lane_segments heap (layout.lane_of key)) segment
            → IsInForm layout (layout.lane_of key) (segment_of heap segment)
            → Contains (open_rows layout (segment_of heap segment)) (key, message) → Contains messages message
        in_lane segment used of_lane form in_rows =
            let (here, of_segment, came) = each_segment heap (lane_segments heap (layout.lane_of key)) messages listed segment of_lane in
            by_gate here of_segment came
          where
            by_gate : (here : List ℕ) → AreOfSegment layout key heap segment here → ((m : ℕ) → Contains here m → Contains messages m)
                → Contains messages message
            by_gate here (inl (is_open, are)) came = came message (row_record form are message in_rows)
            by_gate here (inr (is_packed, none)) came = absurd (open_or_sealed segment used is_packed)

        by_form : (segment lane : ℕ) → segment < heap.pool → Contains (lane_segments heap lane) segment
            → Contains (open_rows layout (segment_of heap segment)) (key, message)
            → IsSegment layout lane (gate_of heap segment) (segment_of heap segment) → Contains messages message
        by_form segment lane used of_lane in_rows (inl (gate, form)) =
            let (r, of_segment, in_record) = flat_from rows_of_record (records_of layout (segment_of heap segment)) (key, message) in_rows in
            let has = (message_of r key message in_record).0 in
            let own : lane ≡ layout.lane_of key = sym
            (All-contains (IsOfLane layout lane) (records_of layout (segment_of heap segment)) r form.lanes of_segment) ∙ ap layout.lane_of has in
            in_lane segment used (subst (λ l. Contains (lane_segments heap l) segment) own of_lane)
            (subst (λ l. IsInForm layout l (segment_of heap segment)) own form) in_rows
        by_form segment lane used of_lane in_rows (inr (is_packed, packed, keys)) = absurd (open_or_sealed segment used is_packed)

    -- the messages listed are exactly those of the key's rows
    pub listed_rows : (message : ℕ) → Contains messages message ↔ Contains (rows_of layout heap) (key, message)
    listed_rows message = (has_row message, is_listed message)
