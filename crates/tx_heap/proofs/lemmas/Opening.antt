-- The opening is a good index with no row.
use Rattle.std.proofs.Common.{◌≡◌, ◌≢◌, ℕ, zero, suc, ◌+◌, ◌-◌, ◌/◌, ◌<◌, ◌≤◌, ltb, List, [], ◌∷◌, length, sum, get_or, take, replicate, refl, sym, ◌∙◌, ap, subst, zero-add, arith, inl}
use Rattle.std.specs.Prelude.{Contains}
use Rattle.std.specs.List.{All, range_with_len}
use Rattle.std.proofs.lemmas.Bool.{cond-true, cond-false, lt-ltb, le-ltb}
use Rattle.std.proofs.lemmas.List.{length-map, get_or-map, get_or_append_left, get_or-append_right, get_or-replicate, length-append, length-replicate}
use Rattle.std.proofs.lemmas.List.FromFn.{get_or-range_with_len, get_or-map-range_with_len, length-map-range_with_len}
use Rattle.std.proofs.lemmas.List.Sums.{sum_by-le, sum-map}
use Rattle.mail_words.specs.Key.{KeyNumbers}
use Rattle.mail_words.specs.Lists.{postings_in}
use Rattle.tx_heap.specs.Layout.{mail_layout, sizes_of, segment_len}
use Rattle.tx_heap.specs.Segment.{Row, first_at, open_rows, HaveCells, IsInForm}
use Rattle.tx_heap.specs.Heap.{Heap, own_of, gate_of, segment_of, need_of, segments_from, lane_segments}
use Rattle.tx_heap.specs.Index.{HasLanes, IsSegment, HasSegments, HasCells, rows_in, rows_at, rows_of, list_of, IsAdded, HasRows, own_rows, HasRoom, IsGoodIndex}
use Rattle.tx_heap.specs.Mail.{IsGoodMail, mail_heap}
use Rattle.tx_heap.specs.Opening.{blank_segment, opening_segment, opening_of}
use Rattle.tx_heap.specs.OpeningLaw.{opening_heap, opening_parts, length-opening}
use Rattle.tx_heap.proofs.lemmas.Lanes.{contains_none, only_one, chain_end, chain_step}
use Rattle.tx_heap.proofs.lemmas.Blank.{none_pairwise, flat_map_none, zeros_at, blank_all, blank_rows, blank_cells, blank_in_form}

module _ (lists : List (List KeyNumbers)) (count : ℕ) (enough : 8 ≤ count) where
  abbrev heap : Heap
  heap = opening_heap lists count

  -- ---- the words of each part
  many : length heap.segments ≡ count
  many = length-map-range_with_len opening_segment 0 count

  lane_word : (lane : ℕ) → lane < 8 → get_or heap.lanes lane 0 ≡ 1 + lane
  lane_word lane below = get_or-range_with_len 1 8 lane 0 below

  own_is : (lane : ℕ) → lane < 8 → own_of heap lane ≡ lane
  own_is lane below = omega (arith, lane_word lane below)

  pub open_gate : (segment : ℕ) → segment < 8 → gate_of heap segment ≡ 1
  open_gate segment below =
      get_or_append_left (replicate 8 1) (replicate (count - 8) 0) 0 segment below ∙ get_or-replicate 8 segment 1 0 below

  pub unused_gate : (segment : ℕ) → 8 ≤ segment → gate_of heap segment ≡ 0
  unused_gate segment from =
      get_or-append_right (replicate 8 1) (replicate (count - 8) 0) 8 segment 0 refl from ∙ zeros_at (count - 8) (segment - 8)

  no_link : (segment : ℕ) → get_or heap.links segment 0 ≡ 0
  no_link segment = zeros_at count segment

  segment_words : (segment : ℕ) → segment < count → segment_of heap segment ≡ opening_segment segment
  segment_words segment below = get_or-map-range_with_len opening_segment 0 count segment segment [] below (zero-add segment)

  open_words : (segment : ℕ) → segment < 8 → segment_of heap segment ≡ blank_segment (first_at mail_layout) segment_len
  open_words segment below =
      segment_words segment (omega (arith, below, enough))
      ∙ ap (λ free. blank_segment free segment_len) (cond-true (ltb segment 8) (first_at mail_layout) 0 (lt-ltb segment 8 below))

  unused_words : (segment : ℕ) → 8 ≤ segment → segment < count → segment_of heap segment ≡ blank_segment 0 segment_len
  unused_words segment from below =
      segment_words segment below
      ∙ ap (λ free. blank_segment free segment_len) (cond-false (ltb segment 8) (first_at mail_layout) 0 (le-ltb segment 8 from))

  -- ---- lanes: each has its own segment alone
  one_from : (most number : ℕ) → 0 < most → 1 ≤ number → segments_from heap most number ≡ (number - 1) ∷ []
  one_from zero number some at_least = absurd (omega (arith, some))
  one_from (suc most) number some at_least =
      chain_step heap most number at_least
      ∙ ap (λ rest. (number - 1) ∷ rest) (chain_end heap most (get_or heap.links (number - 1) 0) (no_link (number - 1)))

  lane_alone : (lane : ℕ) → lane < 8 → lane_segments heap lane ≡ lane ∷ []
  lane_alone lane below =
      let word = lane_word lane below in
      one_from (length heap.segments) (get_or heap.lanes lane 0) (omega (arith, many, enough)) (omega (arith, word))
      ∙ ap (λ segment. segment ∷ []) (own_is lane below)

  of_lane : (lane segment : ℕ) → lane < 8 → Contains (lane_segments heap lane) segment → segment ≡ lane
  of_lane lane segment below among = sym (only_one lane segment (subst (λ xs. Contains xs segment) (lane_alone lane below) among))

  opening_lanes : HasLanes heap
  opening_lanes = record {
    gates = omega (arith, many, gates_many);
    links = omega (arith, many, length-replicate {A = ℕ} count 0);
    pool = omega (arith, many, enough);
    own = λ lane below. let word = lane_word lane below in (omega (arith, word), omega (arith, word, below));
    own_open = λ lane below. ap (gate_of heap) (own_is lane below) ∙ open_gate lane below;
    fall = λ segment below. omega (arith, no_link segment);
    reached = λ segment below. (segment, below, subst (λ xs. Contains xs segment) (sym (lane_alone segment below)) (0, omega arith, refl));
    one_lane = λ segment lane other below other_below among among_other. sym (of_lane lane segment below among) ∙ of_lane other segment other_below among_other;
    unused = λ segment from below. record {
      gate = unused_gate segment from;
      link = no_link segment;
      words = subst (All (λ word. word ≡ 0)) (sym (unused_words segment from (omega (arith, below, many)))) (blank_all segment_len);
    };
  }
    where
      gates_many : length heap.gates ≡ count
      gates_many = omega (arith, enough, length-append {A = ℕ} (replicate 8 1) (replicate (count - 8) 0), length-replicate {A = ℕ} (count - 8) 0)

  -- ---- segments
  opening_segments : HasSegments mail_layout heap
  opening_segments lane segment below among =
      let is = of_lane lane segment below among in
      subst (λ s. IsSegment mail_layout lane (gate_of heap s) (segment_of heap s)) (sym is)
      (inl (
        inl (open_gate lane below),
        subst (IsInForm mail_layout lane) (sym (open_words lane below))
            (blank_in_form mail_layout segment_len lane (omega arith)),
      ))

  opening_cells : HasCells mail_layout heap
  opening_cells segment below not_packed =
      subst (HaveCells mail_layout) (sym (open_words segment below)) (blank_cells mail_layout segment_len)

  -- ---- rows
  no_rows_at : (segment : ℕ) → segment < 8 → rows_at mail_layout heap segment ≡ []
  no_rows_at segment below =
      ap (λ gate. rows_in mail_layout gate (segment_of heap segment)) (open_gate segment below)
      ∙ ap (open_rows mail_layout) (open_words segment below) ∙ blank_rows mail_layout segment_len

  pub opening_no_rows : rows_of mail_layout heap ≡ []
  opening_no_rows = flat_map_none (rows_at mail_layout heap) 0 8 (λ segment from below. no_rows_at segment (omega (arith, below)))

  need_is : (message : ℕ) → 1 ≤ message → message ≤ length lists → need_of heap message ≡ length (list_of lists message)
  need_is message from to = get_or-map length lists (message - 1) [] 0 (omega (arith, from, to))

  none_added : (row : Row) → IsAdded lists heap row → ⊥
  none_added row (from, to, among) =
      let need = need_is row.1 from to in
      let none : length (list_of lists row.1) - need_of heap row.1 ≡ 0 = omega (arith, need) in
      contains_none row.0 (subst (λ n. Contains (take n (list_of lists row.1)) row.0) none among)

  opening_rows : HasRows mail_layout lists heap
  opening_rows = record {
    needs = length-map lists length;
    to_come = λ message from to. omega (arith, need_is message from to);
    once = none_pairwise ◌≢◌ (rows_of mail_layout heap) opening_no_rows;
    exactly = λ row. (λ among. absurd (contains_none row (subst (λ rows. Contains rows row) opening_no_rows among)), λ added. absurd (none_added row added));
  }

  -- ---- room
  no_own_rows : own_rows mail_layout heap ≡ 0
  no_own_rows =
      let size = λ (number : ℕ). length (rows_at mail_layout heap (number - 1)) in
      let none = sum_by-le size 0 (range_with_len 1 8) (λ k d below.
      let at = get_or-range_with_len 1 8 k d below in
      let here : get_or (range_with_len 1 8) k d - 1 < 8 = omega (arith, at, below) in
      omega (arith, ap length (no_rows_at (get_or (range_with_len 1 8) k d - 1) here))) in
      omega (arith, none)

  opening_room : postings_in lists / 3952 ≤ count - 8 → HasRoom mail_layout heap
  opening_room room =
      let sum_is : sum heap.needs + own_rows mail_layout heap ≡ postings_in lists = omega (arith, no_own_rows, sum-map length lists) in
      omega (arith, ap (λ rows. rows / 3952) sum_is, room, many)

  pub opening_index : postings_in lists / 3952 ≤ count - 8 → IsGoodIndex mail_layout lists heap
  opening_index room = record {
    grows = record { index = record { lanes = opening_lanes; segments = opening_segments }; cells = opening_cells; room = opening_room room };
    rows = opening_rows;
  }

-- ---- the opening of the lists
module _ (lists : List (List KeyNumbers)) where
  parts : mail_heap lists (opening_of lists) ≡ opening_heap lists (sizes_of lists).segments
  parts = opening_parts lists (sizes_of lists).segments (omega arith)

  pub opening_good : IsGoodMail lists (opening_of lists) (opening_of lists)
  opening_good = record {
    opened = refl;
    size = length-opening lists (sizes_of lists).segments (omega arith);
    index = subst (IsGoodIndex mail_layout lists) (sym parts) (opening_index lists (sizes_of lists).segments (omega arith) (omega arith));
  }

  pub opening_has_no_rows : rows_of mail_layout (mail_heap lists (opening_of lists)) ≡ []
  opening_has_no_rows = ap (rows_of mail_layout) parts ∙ opening_no_rows lists (sizes_of lists).segments (omega arith)
