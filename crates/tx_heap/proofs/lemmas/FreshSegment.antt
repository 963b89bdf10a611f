-- A fresh segment in front of a full one: there is an unused segment for it, and the index stays good.
use Rattle.std.proofs.Common.{◌≡◌, ◌≢◌, ℕ, zero, suc, ◌+◌, ◌-◌, ◌/◌, ◌<◌, ◌≤◌, ◌==◌, ◌⊎◌, ◌↔◌, if◌then◌else◌, List, [], ◌∷◌, ◌++◌, length, sum, get_or, set, replicate, refl, sym, ◌∙◌, ap, subst, arith, inl, inr}
use Rattle.std.specs.Prelude.{Contains}
use Rattle.std.specs.List.{All, flat_map, range_with_len, sum_by}
use Rattle.std.proofs.lemmas.Bool.{cases_eq, cases_lt}
use Rattle.std.proofs.lemmas.List.{append-nil, length-set, get_or-set_same, get_or-set_other}
use Rattle.std.proofs.lemmas.List.Elements.{All-head, All-tail}
use Rattle.std.proofs.lemmas.List.Sums.{get_or-le-sum_by, sum_by-set, sum_by-cons}
use Rattle.mail_words.specs.Key.{KeyNumbers}
use Rattle.tx_model.specs.declared.gate.TheConstants.{GATE_SEALED}
use Rattle.tx_heap.specs.Layout.{mail_layout, segment_len}
use Rattle.tx_heap.specs.Pairwise.{Pairwise}
use Rattle.tx_heap.specs.Segment.{first_at, open_rows, IsInForm, HaveCells}
use Rattle.tx_heap.specs.Heap.{Heap, own_of, gate_of, segment_of, segments_from, lane_segments, sealed_of, budget_of}
use Rattle.tx_heap.specs.Index.{IsUnused, HasLanes, IsSegment, HasSegments, HasCells, rows_in, rows_at, rows_of, IsAdded, HasRows, own_rows, HasRoom, MayGrow, IsGoodIndex}
use Rattle.tx_heap.specs.Opening.{blank_segment}
use Rattle.tx_heap.specs.BudgetLaw.{own_below, own_among}
use Rattle.tx_heap.specs.Fresh.{IsFull, with_fresh}
use Rattle.tx_heap.proofs.Pushes.{flat_map_range_more}
use Rattle.tx_heap.proofs.lemmas.Blank.{blank_in_form, blank_cells, blank_rows}
use Rattle.tx_heap.proofs.lemmas.FullSegments.{full_rows}
use Rattle.tx_heap.proofs.lemmas.Lanes.{contains_first, contains_rest, contains_cases, chain_below, chain_step, chain_long, chain_same}

-- ---- lists
zeros_are : (words : List ℕ) → All (λ word. word ≡ 0) words → words ≡ replicate (length words) 0
zeros_are [] zeros = refl
zeros_are (word ∷ words) zeros =
    ap (λ w. w ∷ words) (All-head (λ (w : ℕ). w ≡ 0) word words zeros) ∙ ap (λ ws. 0 ∷ ws) (zeros_are words (All-tail (λ (w : ℕ). w ≡ 0) word words zeros))

-- zeros with a free offset are a blank segment
blank_from : (free len : ℕ) (words : List ℕ) → length words ≡ len → 0 < len → All (λ word. word ≡ 0) words → set words 0 free ≡ blank_segment free len
unfolding blank_segment
blank_from free len [] many some zeros = absurd (omega (arith, many, some))
blank_from free len (word ∷ words) many some zeros =
    let rest : length words ≡ len - 1 = omega (arith, many) in
    ap (λ ws. free ∷ ws) (zeros_are words (All-tail (λ (w : ℕ). w ≡ 0) word words zeros) ∙ ap (λ n. replicate n 0) rest)

pub flat_map_same : {X : Type 0} (f g : ℕ → List X) (first count : ℕ) → ((k : ℕ) → first ≤ k → k < first + count → f k ≡ g k)
    → flat_map f (range_with_len first count) ≡ flat_map g (range_with_len first count)
flat_map_same f g first zero same = refl
flat_map_same f g first (suc count) same =
    ap (λ xs. xs ++ flat_map f (range_with_len (first + 1) count)) (same first (omega arith) (omega arith))
    ∙ ap (λ rest. g first ++ rest) (flat_map_same f g (first + 1) count (λ k from below. same k (omega (arith, from)) (omega (arith, below))))

pub sum_same : (f g : ℕ → ℕ) (xs : List ℕ) → ((k : ℕ) → k < length xs → f (get_or xs k 0) ≡ g (get_or xs k 0)) → sum_by f xs ≡ sum_by g xs
sum_same f g [] same = refl
sum_same f g (x ∷ xs) same =
    let rest = sum_same f g xs (λ k below. same (suc k) (omega (arith, below))) in
    let here : f x ≡ g x = same 0 (omega arith) in
    omega (arith, sum_by-cons f x xs, sum_by-cons g x xs, rest, here)

abbrev one_if_sealed : ℕ → ℕ
one_if_sealed gate = if gate == GATE_SEALED then 1 else 0

module _ (heap : Heap) (grows : MayGrow mail_layout heap) (lane before : ℕ) (lane_below : lane < length heap.lanes) (own : own_of heap lane ≡ before)
    (sized : (segment : ℕ) → segment < length heap.segments → length (segment_of heap segment) ≡ segment_len) (full : IsFull (segment_of heap before)) where
  lanes : HasLanes heap
  lanes = grows.index.lanes

  -- ---- the full segment
  before_below : before < heap.pool
  before_below = subst (λ segment. segment < heap.pool) own (own_below heap lanes lane lane_below)

  before_open : gate_of heap before ≡ 1
  before_open = subst (λ segment. gate_of heap segment ≡ 1) own (lanes.own_open lane lane_below)

  lane_word : get_or heap.lanes lane 0 ≡ before + 1
  lane_word = let word = lanes.own lane lane_below in omega (arith, own, word.0)

  before_form : IsInForm mail_layout lane (segment_of heap before)
  before_form =
      open_form (grows.index.segments lane before lane_below (subst (Contains (lane_segments heap lane)) own (own_among heap lanes lane lane_below)))
    where
      open_form : IsSegment mail_layout lane (gate_of heap before) (segment_of heap before) → IsInForm mail_layout lane (segment_of heap before)
      open_form (inl (gates, form)) = form
      open_form (inr (is_packed, packed, of_lane)) = absurd (omega (arith, is_packed, before_open))

  before_rows : 3952 ≤ length (rows_at mail_layout heap before)
  before_rows =
      let have = grows.cells before before_below (λ is_packed. omega (arith, is_packed, before_open)) in
      let open_segment = ap (λ gate. length (rows_in mail_layout gate (segment_of heap before))) before_open in
      omega (arith, full_rows lane (segment_of heap before) before_form have full, open_segment)

  own_rows_many : 3952 ≤ own_rows mail_layout heap
  own_rows_many =
      let here = ap (λ segment. length (rows_at mail_layout heap segment)) own in
      omega (arith, get_or-le-sum_by (λ number. length (rows_at mail_layout heap (number - 1))) heap.lanes lane 0 lane_below, here, before_rows)

  -- so an unused segment is there
  pub some_unused : heap.pool < length heap.segments
  some_unused =
      let room : (sum heap.needs + own_rows mail_layout heap) / 3952 ≤ length heap.segments - heap.pool = grows.room in
      omega (arith, room, own_rows_many)

  -- ---- the words of the heap with the fresh segment
  abbrev grown : Heap
  grown = with_fresh mail_layout lane before heap

  unused : IsUnused heap heap.pool
  unused = lanes.unused heap.pool (omega arith) some_unused

  many : length grown.segments ≡ length heap.segments
  many = length-set heap.segments heap.pool _

  lanes_many : length grown.lanes ≡ length heap.lanes
  lanes_many = length-set heap.lanes lane (heap.pool + 1)

  lane_new : get_or grown.lanes lane 0 ≡ heap.pool + 1
  lane_new = get_or-set_same heap.lanes lane (heap.pool + 1) 0 lane_below

  lane_old : (other : ℕ) → other ≢ lane → get_or grown.lanes other 0 ≡ get_or heap.lanes other 0
  lane_old other apart = get_or-set_other heap.lanes lane other (heap.pool + 1) 0 apart

  gate_new : gate_of grown heap.pool ≡ 1
  gate_new = get_or-set_same heap.gates heap.pool 1 0 (omega (arith, some_unused, lanes.gates))

  gate_old : (segment : ℕ) → segment ≢ heap.pool → gate_of grown segment ≡ gate_of heap segment
  gate_old segment apart = get_or-set_other heap.gates heap.pool segment 1 0 apart

  link_new : get_or grown.links heap.pool 0 ≡ before + 1
  link_new = get_or-set_same heap.links heap.pool (before + 1) 0 (omega (arith, some_unused, lanes.links))

  link_old : (segment : ℕ) → segment ≢ heap.pool → get_or grown.links segment 0 ≡ get_or heap.links segment 0
  link_old segment apart = get_or-set_other heap.links heap.pool segment (before + 1) 0 apart

  words_new : segment_of grown heap.pool ≡ blank_segment (first_at mail_layout) segment_len
  words_new =
      get_or-set_same heap.segments heap.pool _ [] some_unused
      ∙ blank_from (first_at mail_layout) segment_len (segment_of heap heap.pool) (sized heap.pool some_unused) (omega arith) unused.words

  words_old : (segment : ℕ) → segment ≢ heap.pool → segment_of grown segment ≡ segment_of heap segment
  words_old segment apart = get_or-set_other heap.segments heap.pool segment _ [] apart

  -- ---- lanes
  chain_old : (most number : ℕ) → number ≤ heap.pool → segments_from grown most number ≡ segments_from heap most number
  chain_old most number within = chain_same heap grown heap.pool lanes.fall (λ segment below. link_old segment (omega (arith, below))) most number within

  lane_grown : lane_segments grown lane ≡ heap.pool ∷ lane_segments heap lane
  lane_grown =
      let most = length heap.segments - 1 in
      let steps : length grown.segments ≡ suc most = omega (arith, many, some_unused) in
      let back : heap.pool + 1 - 1 ≡ heap.pool = omega arith in
      ap (segments_from grown (length grown.segments)) lane_new
      ∙ ap (λ n. segments_from grown n (heap.pool + 1)) steps
      ∙ chain_step grown most (heap.pool + 1) (omega arith)
      ∙ ap (λ segment. segment ∷ segments_from grown most (get_or grown.links segment 0)) back
      ∙ ap (λ number. heap.pool ∷ segments_from grown most number) link_new
      ∙ ap (λ rest. heap.pool ∷ rest)
      (chain_old most (before + 1) (omega (arith, before_below))
      ∙ chain_long heap heap.pool lanes.fall most (length heap.segments) (before + 1) (omega (arith, before_below, some_unused))
      (omega (arith, before_below, some_unused)) (omega (arith, before_below))
      ∙ ap (segments_from heap (length heap.segments)) (sym lane_word))

  lane_same : (other : ℕ) → other < length heap.lanes → other ≢ lane → lane_segments grown other ≡ lane_segments heap other
  lane_same other below apart =
      ap (λ n. segments_from grown n (get_or grown.lanes other 0)) many
      ∙ ap (segments_from grown (length heap.segments)) (lane_old other apart)
      ∙ chain_old (length heap.segments) (get_or heap.lanes other 0) (lanes.own other below).1

  used_before : (other segment : ℕ) → other < length heap.lanes → Contains (lane_segments heap other) segment → segment < heap.pool
  used_before other segment below among =
      let within = (lanes.own other below).1 in
      omega (arith, chain_below heap heap.pool lanes.fall (length heap.segments) (get_or heap.lanes other 0) segment within among, within)

  -- a segment of a lane is the fresh one, or was one of that lane
  where_in : (other segment : ℕ) → other < length heap.lanes → Contains (lane_segments grown other) segment
      → ((segment ≡ heap.pool) × (other ≡ lane)) ⊎ ((segment < heap.pool) × Contains (lane_segments heap other) segment)
  where_in other segment below among =
      elim (cases_eq other lane) [
        | inl same ↦
            elim (contains_cases heap.pool segment (lane_segments heap lane)
            (subst (λ xs. Contains xs segment) (ap (lane_segments grown) same ∙ lane_grown) among)) [
              | inl here ↦ inl (sym here, same)
              | inr later ↦ let among_old = subst (λ l. Contains (lane_segments heap l) segment) (sym same) later in inr
                  (used_before other segment below among_old, among_old)
            ]
        | inr apart ↦
            let among_old = subst (λ xs. Contains xs segment) (lane_same other below apart) among in
            inr (used_before other segment below among_old, among_old)
      ]

  reached : (segment : ℕ) → segment < heap.pool + 1 → (other : ℕ) × (other < length grown.lanes) × Contains (lane_segments grown other) segment
  reached segment below =
      elim (cases_lt segment heap.pool) [
        | inl used ↦
            let (other, other_below, among) = lanes.reached segment used in
            elim (cases_eq other lane) [
              | inl same ↦ (
                lane,
                omega (arith, lane_below, lanes_many),
                subst (λ xs. Contains xs segment) (sym lane_grown)
                    (contains_rest heap.pool segment (lane_segments heap lane) (subst (λ l. Contains (lane_segments heap l) segment) same among)),
              )
              | inr apart ↦ (other, omega (arith, other_below, lanes_many), subst (λ xs. Contains xs segment) (sym (lane_same other other_below apart)) among)
            ]
        | inr from ↦
            let is : heap.pool ≡ segment = omega (arith, from, below) in (
              lane,
              omega (arith, lane_below, lanes_many),
              subst (Contains (lane_segments grown lane)) is
                  (subst (λ xs. Contains xs heap.pool) (sym lane_grown) (contains_first heap.pool (lane_segments heap lane))),
            )
      ]

  one_lane : (segment one other : ℕ) → one < length heap.lanes → other < length heap.lanes → Contains (lane_segments grown one) segment
      → Contains (lane_segments grown other) segment → one ≡ other
  one_lane segment one other below other_below among among_other =
      elim (where_in one segment below among) [
        | inl (is, same) ↦
            elim (where_in other segment other_below among_other) [
              | inl (also, other_same) ↦ omega (arith, same, other_same)
              | inr (used, old) ↦ absurd (omega (arith, is, used))
            ]
        | inr (used, old) ↦
            elim (where_in other segment other_below among_other) [
              | inl (is, same) ↦ absurd (omega (arith, is, used))
              | inr (also, other_old) ↦ lanes.one_lane segment one other below other_below old other_old
            ]
      ]

  own_grown : (other : ℕ) → other < length heap.lanes → (1 ≤ get_or grown.lanes other 0) × (get_or grown.lanes other 0 ≤ heap.pool + 1)
  own_grown other below =
      elim (cases_eq other lane) [
        | inl same ↦ let word = ap (λ l. get_or grown.lanes l 0) same ∙ lane_new in (omega (arith, word), omega (arith, word))
        | inr apart ↦
            let word = lane_old other apart in
            let was = lanes.own other below in
            (omega (arith, word, was.0), omega (arith, word, was.1))
      ]

  own_open : (other : ℕ) → other < length heap.lanes → gate_of grown (own_of grown other) ≡ 1
  own_open other below =
      elim (cases_eq other lane) [
        | inl same ↦
            let is : own_of grown other ≡ heap.pool = omega (arith, ap (λ l. get_or grown.lanes l 0) same, lane_new) in
            ap (gate_of grown) is ∙ gate_new
        | inr apart ↦
            let is : own_of grown other ≡ own_of heap other = omega (arith, lane_old other apart) in
            ap (gate_of grown) is ∙ gate_old (own_of heap other) (λ e. omega (arith, e, own_below heap lanes other below)) ∙ lanes.own_open other below
      ]

  fall : (segment : ℕ) → segment < heap.pool + 1 → get_or grown.links segment 0 ≤ segment
  fall segment below =
      elim (cases_lt segment heap.pool) [
        | inl used ↦ omega (arith, link_old segment (λ e. omega (arith, e, used)), lanes.fall segment used)
        | inr from ↦
            let is : segment ≡ heap.pool = omega (arith, from, below) in
            omega (arith, ap (λ s. get_or grown.links s 0) is, link_new, before_below, is)
      ]

  grown_lanes : HasLanes grown
  grown_lanes = record {
    gates = omega (arith, many, length-set heap.gates heap.pool 1, lanes.gates);
    links = omega (arith, many, length-set heap.links heap.pool (before + 1), lanes.links);
    pool = omega (arith, many, some_unused);
    own = λ other below. own_grown other (omega (arith, below, lanes_many));
    own_open = λ other below. own_open other (omega (arith, below, lanes_many));
    fall = fall;
    reached = reached;
    one_lane = λ segment one other below other_below. one_lane segment one other (omega (arith, below, lanes_many)) (omega (arith, other_below, lanes_many));
    unused = λ segment from below.
        let apart : segment ≢ heap.pool = λ e. omega (arith, e, from) in
        let was = lanes.unused segment (omega (arith, from)) (omega (arith, below, many)) in
        record {
          gate = gate_old segment apart ∙ was.gate;
          link = link_old segment apart ∙ was.link;
          words = subst (All (λ word. word ≡ 0)) (sym (words_old segment apart)) was.words;
        };
  }

  -- ---- segments
  grown_segments : HasSegments mail_layout grown
  grown_segments other segment below among =
      elim (where_in other segment (omega (arith, below, lanes_many)) among) [
        | inl (is, same) ↦
            subst (λ s. IsSegment mail_layout other (gate_of grown s) (segment_of grown s)) (sym is)
            (inl (inl gate_new, subst (IsInForm mail_layout other) (sym words_new) (blank_in_form mail_layout segment_len other (omega arith))))
        | inr (used, old) ↦
            let apart : segment ≢ heap.pool = λ e. omega (arith, e, used) in
            subst (λ gate. IsSegment mail_layout other gate (segment_of grown segment)) (sym (gate_old segment apart))
            (subst (IsSegment mail_layout other (gate_of heap segment)) (sym (words_old segment apart))
            (grows.index.segments other segment (omega (arith, below, lanes_many)) old))
      ]

  grown_cells : HasCells mail_layout grown
  grown_cells segment below open_or_sealed =
      elim (cases_lt segment heap.pool) [
        | inl used ↦
            let apart : segment ≢ heap.pool = λ e. omega (arith, e, used) in
            subst (HaveCells mail_layout) (sym (words_old segment apart))
            (grows.cells segment used (λ is_packed. open_or_sealed (gate_old segment apart ∙ is_packed)))
        | inr from ↦
            let is : segment ≡ heap.pool = omega (arith, from, below) in
            subst (λ s. HaveCells mail_layout (segment_of grown s)) (sym is)
            (subst (HaveCells mail_layout) (sym words_new) (blank_cells mail_layout segment_len))
      ]

  -- ---- rows
  rows_new : rows_at mail_layout grown heap.pool ≡ []
  rows_new =
      ap (λ gate. rows_in mail_layout gate (segment_of grown heap.pool)) gate_new ∙ ap (open_rows mail_layout) words_new ∙ blank_rows mail_layout segment_len

  rows_old : (segment : ℕ) → segment ≢ heap.pool → rows_at mail_layout grown segment ≡ rows_at mail_layout heap segment
  rows_old segment apart =
      ap (λ gate. rows_in mail_layout gate (segment_of grown segment)) (gate_old segment apart)
      ∙ ap (rows_in mail_layout (gate_of heap segment)) (words_old segment apart)

  pub fresh_rows : rows_of mail_layout grown ≡ rows_of mail_layout heap
  fresh_rows =
      flat_map_range_more (rows_at mail_layout grown) heap.pool
      ∙ ap (λ rows. flat_map (rows_at mail_layout grown) (range_with_len 0 heap.pool) ++ rows) rows_new
      ∙ append-nil (flat_map (rows_at mail_layout grown) (range_with_len 0 heap.pool))
      ∙ flat_map_same (rows_at mail_layout grown) (rows_at mail_layout heap) 0 heap.pool (λ segment from below. rows_old segment (λ e. omega (arith, e, below)))

  -- ---- room
  abbrev size : Heap → ℕ → ℕ
  size h number = length (rows_at mail_layout h (number - 1))

  own_rows_grown : own_rows mail_layout grown + length (rows_at mail_layout heap before) ≡ own_rows mail_layout heap
  own_rows_grown =
      let changed = sum_by-set (size grown) heap.lanes lane (heap.pool + 1) 0 lane_below in
      let back : heap.pool + 1 - 1 ≡ heap.pool = omega arith in
      let new : size grown (heap.pool + 1) ≡ 0 = ap (λ s. length (rows_at mail_layout grown s)) back ∙ ap length rows_new in
      let same = sum_same (size grown) (size heap) heap.lanes
      (λ k below. ap length (rows_old (own_of heap k) (λ e. omega (arith, e, own_below heap lanes k below)))) in
      let was : size grown (get_or heap.lanes lane 0) ≡ length (rows_at mail_layout heap before) =
      ap (λ s. length (rows_at mail_layout grown s)) own ∙ ap length (rows_old before (λ e. omega (arith, e, before_below))) in
      omega (arith, changed, new, same, was)

  grown_room : HasRoom mail_layout grown
  grown_room =
      let room : (sum heap.needs + own_rows mail_layout heap) / 3952 ≤ length heap.segments - heap.pool = grows.room in
      omega (arith, room, own_rows_grown, before_rows, many)

  pub fresh_grows : MayGrow mail_layout grown
  fresh_grows = record { index = record { lanes = grown_lanes; segments = grown_segments }; cells = grown_cells; room = grown_room }

  -- the rows stay, and the budget falls
  pub fresh_good : (lists : List (List KeyNumbers)) → HasRows mail_layout lists heap → IsGoodIndex mail_layout lists grown
  fresh_good lists rows = record {
    grows = fresh_grows;
    rows = record {
      needs = rows.needs;
      to_come = rows.to_come;
      once = subst (Pairwise ◌≢◌) (sym fresh_rows) rows.once;
      exactly = λ row. subst (λ all. Contains all row ↔ IsAdded lists heap row) (sym fresh_rows) (rows.exactly row);
    };
  }

  pub fresh_budget : budget_of grown < budget_of heap
  fresh_budget =
      let changed = sum_by-set one_if_sealed heap.gates heap.pool 1 0 (omega (arith, some_unused, lanes.gates)) in
      let sealed : sealed_of grown ≡ sealed_of heap = omega (arith, changed, ap one_if_sealed unused.gate) in
      omega (arith, sealed, many, some_unused)
