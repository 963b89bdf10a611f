-- No message is listed twice, where each row is there once.
use Rattle.std.proofs.Common.{◌≡◌, ◌≢◌, ℕ, zero, suc, ◌-◌, ◌<◌, ◌≤◌, ◌==◌, List, [], ◌∷◌, length, map, get_or, sym, ap, subst, arith, inl, inr}
use Rattle.std.specs.Prelude.{Contains}
use Rattle.std.specs.List.{range_with_len}
use Rattle.std.proofs.lemmas.Bool.{cases_eq, cond-false, ne_eqb}
use Rattle.std.proofs.lemmas.List.Elements.{All-contains}
use Rattle.mail_words.specs.Key.{KeyNumbers}
use Rattle.tx_model.specs.declared.gate.TheConstants.{GATE_PACKED}
use Rattle.tx_heap.specs.Layout.{Layout}
use Rattle.tx_heap.specs.Pairwise.{Pairwise}
use Rattle.tx_heap.specs.Segment.{Cell, Row, record_at, records_of, rows_of_record, open_rows}
use Rattle.tx_heap.specs.Packed.{packed_rows}
use Rattle.tx_heap.specs.Heap.{Heap, gate_of, segment_of, segments_from, lane_segments}
use Rattle.tx_heap.specs.Index.{IsIndex, rows_at, rows_of}
use Rattle.tx_heap.proofs.lemmas.Lanes.{contains_none, only_one, contains_first, contains_rest, chain_end, chain_step, chain_below}
use Rattle.tx_buckets.proofs.lemmas.Lists.{contains_range, map_map}
use Rattle.tx_postings.specs.Listing.{AreOfRecord, AreOfSegment, AreOfSegments, AreListed}
use Rattle.tx_postings.proofs.Pairs.{pairs_within, pairs_between, pairs_joined, apart_before}
use Rattle.tx_postings.proofs.lemmas.Listed.{record_rows, some_segment}

-- ---- the segments of a lane are apart, since their numbers fall
chain_apart : (heap : Heap) (pool : ℕ) → ((segment : ℕ) → segment < pool → get_or heap.links segment 0 ≤ segment)
    → (most number : ℕ) → number ≤ pool → Pairwise ◌≢◌ (segments_from heap most number)
chain_apart heap pool fall zero number within = tt
chain_apart heap pool fall (suc most) number within =
    elim (cases_eq number 0) [
      | inl none ↦ subst (Pairwise ◌≢◌) (sym (chain_end heap (suc most) number none)) tt
      | inr some ↦
          let next = get_or heap.links (number - 1) 0 in
          let falls : next ≤ number - 1 = fall (number - 1) (omega (arith, some, within)) in
          subst (Pairwise ◌≢◌) (sym (chain_step heap most number (omega (arith, some))))
          (pairs_joined ◌≢◌ ((number - 1) ∷ []) (segments_from heap most next) (λ k d below. absurd (omega (arith, below)), tt)
          (chain_apart heap pool fall most next (omega (arith, falls, within)))
          (λ one other here among same.
          omega (arith, only_one (number - 1) one here, same, falls, chain_below heap pool fall most next other (omega (arith, falls, within)) among)))
    ]

module _ {layout : Layout} {heap : Heap} (index : IsIndex layout heap) (once : Pairwise ◌≢◌ (rows_of layout heap)) (key : KeyNumbers) where
  abbrev row_of : ℕ → Row
  row_of message = (key, message)

  turned : (a b : Row) → a ≢ b → b ≢ a
  turned a b apart same = apart (sym same)

  open_rows_at : (segment : ℕ) → gate_of heap segment ≡ 1 → rows_at layout heap segment ≡ open_rows layout (segment_of heap segment)
  open_rows_at segment is_open =
      cond-false (gate_of heap segment == GATE_PACKED) (packed_rows (segment_of heap segment)) (open_rows layout (segment_of heap segment))
      (ne_eqb (gate_of heap segment) GATE_PACKED (λ is_packed. omega (arith, is_open, is_packed)))

  -- the messages of one record
  record_once : (words messages : List ℕ) → Pairwise ◌≢◌ (open_rows layout words) → AreOfRecord layout words key messages → Pairwise ◌≢◌ messages
  record_once words messages apart (inr (none, are)) = subst (Pairwise ◌≢◌) (sym are) tt
  record_once words messages apart (inl (at, is, are)) =
      let r = record_at words at in
      let rows : Pairwise ◌≢◌ (rows_of_record r) = pairs_within ◌≢◌ rows_of_record (records_of layout words) r apart is.among in
      let turned_rows : map (λ (c : Cell). (r.key, c.message)) r.cells ≡ map (λ m. (r.key, m)) (map (λ (c : Cell). c.message) r.cells) =
      sym (map_map (λ (c : Cell). c.message) (λ (m : ℕ). (r.key, m)) r.cells) in
      subst (Pairwise ◌≢◌) (sym are)
      (apart_before (λ (m : ℕ). (r.key, m)) (map (λ (c : Cell). c.message) r.cells) (subst (Pairwise ◌≢◌) turned_rows rows))

  -- those of one segment
  segment_once : (segment : ℕ) (messages : List ℕ) → segment < heap.pool → AreOfSegment layout key heap segment messages → Pairwise ◌≢◌ messages
  segment_once segment messages used (inr (is_packed, none)) = subst (Pairwise ◌≢◌) (sym none) tt
  segment_once segment messages used (inl (is_open, are)) =
      record_once (segment_of heap segment) messages
      (subst (Pairwise ◌≢◌) (open_rows_at segment is_open)
      (pairs_within ◌≢◌ (rows_at layout heap) (range_with_len 0 heap.pool) segment once (contains_range heap.pool segment used))) are

  -- a message of a segment is one of its rows
  row_here : (segment : ℕ) (messages : List ℕ) (message : ℕ) → AreOfSegment layout key heap segment messages → Contains messages message
      → Contains (rows_at layout heap segment) (row_of message)
  row_here segment messages message (inr (is_packed, none)) among = absurd (contains_none message (subst (λ ms. Contains ms message) none among))
  row_here segment messages message (inl (is_open, are)) among =
      subst (λ (rows : List Row). Contains rows (row_of message)) (sym (open_rows_at segment is_open)) (record_rows are message among)

  -- those of several segments
  segments_once : (segments messages : List ℕ) → ((segment : ℕ) → Contains segments segment → segment < heap.pool) → Pairwise ◌≢◌ segments
      → AreOfSegments layout key heap segments messages → Pairwise ◌≢◌ messages
  segments_once [] messages used apart none = subst (Pairwise ◌≢◌) (sym none) tt
  segments_once (first ∷ segments) messages used apart (here, rest, both, of_first, of_rest) =
      subst (Pairwise ◌≢◌) (sym both)
      (pairs_joined ◌≢◌ here rest (segment_once first here (used first (contains_first first segments)) of_first)
      (segments_once segments rest (λ segment among. used segment (contains_rest first segment segments among)) apart.1 of_rest)
      across)
    where
      across : (x y : ℕ) → Contains here x → Contains rest y → x ≢ y
      across x y in_here in_rest same =
          let (segment, own, among, of_segment, in_own) = some_segment heap segments rest of_rest y in_rest in
          pairs_between ◌≢◌ (rows_at layout heap) turned (range_with_len 0 heap.pool) first segment (row_of x) (row_of y) once
          (contains_range heap.pool first (used first (contains_first first segments)))
          (contains_range heap.pool segment (used segment (contains_rest first segment segments among)))
          (All-contains (λ s. first ≢ s) segments segment apart.0 among) (row_here first here x of_first in_here) (row_here segment own y of_segment in_own)
          (ap row_of same)

  -- no message is listed twice
  pub listed_once : layout.lane_of key < length heap.lanes → (messages : List ℕ) → AreListed layout key heap messages → Pairwise ◌≢◌ messages
  listed_once below messages listed =
      let own = index.lanes.own (layout.lane_of key) below in
      let number = get_or heap.lanes (layout.lane_of key) 0 in
      segments_once (lane_segments heap (layout.lane_of key)) messages
      (λ segment among. omega (arith, own.1, chain_below heap heap.pool index.lanes.fall (length heap.segments) number segment own.1 among))
      (chain_apart heap heap.pool index.lanes.fall (length heap.segments) number own.1) listed
