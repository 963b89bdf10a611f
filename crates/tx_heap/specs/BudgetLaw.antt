-- The law of budgets.
use Rattle.std.specs.Prelude.{◌≡◌, ◌≢◌, ℕ, zero, suc, ◌+◌, ◌-◌, ◌*◌, ◌<◌, ◌≤◌, ◌==◌, Bool, true, false, List, [], ◌∷◌, length, map, take, drop, sum, slice_index, replicate, count_by, Contains, refl}
use Rattle.std.specs.List.{All, range_with_len}
use Rattle.std.proofs.Common.{cond, get_or, set, sym, ap, ◌∙◌, subst, arith}
use Rattle.std.proofs.lemmas.Bool.{cond-false, ne_eqb}
use Rattle.std.proofs.lemmas.List.{length-take-le, length-drop, length-map, length-set, get_or-take, get_or-drop, get_or-map, get_or-set_other, take-append-drop, get_or_default}
use Rattle.std.proofs.lemmas.List.FromFn.{length-range_with_len}
use Rattle.std.proofs.lemmas.List.Sums.{sum_by-cons, sum_by-append, sum_by-set, sum_by-le, sum-map, count_by-le-length}
use Rattle.std.proofs.lemmas.List.Elements.{All-append, All-replicate}
use Rattle.mail_words.specs.Key.{KeyNumbers}
use Rattle.mail_words.specs.Lists.{postings_in}
use Rattle.tx_model.specs.declared.gate.TheConstants.{GATE_SEALED}
use Rattle.tx_model.specs.Memory.{words_in}
use Rattle.tx_heap.specs.Layout.{sizes_of, region_of, mail_layout}
use Rattle.tx_heap.specs.Pairwise.{Pairwise, Pairwise-from_indices}
use Rattle.tx_heap.specs.Heap.{Heap, own_of, need_of, segments_from, lane_segments, sealed_of, budget_of}
use Rattle.tx_heap.specs.Index.{HasLanes, HasRows, IsGoodIndex, list_of}
use Rattle.tx_heap.specs.Mail.{IsGoodMail, mail_heap, mail_budget}
use Rattle.tx_heap.specs.Opening.{opening_segment, opening_gates}
use Rattle.tx_heap.specs.OpeningLaw.{opening_heap, opening_parts}

-- ---- sums
-- what is no greater index by index has no greater sum
sum_no_greater : (xs ys : List ℕ) → length xs ≡ length ys → ((k : ℕ) → k < length xs → get_or xs k 0 ≤ get_or ys k 0) → sum xs ≤ sum ys
sum_no_greater [] ys same each = omega arith
sum_no_greater (x ∷ xs) [] same each = absurd (omega (arith, same))
sum_no_greater (x ∷ xs) (y ∷ ys) same each =
    let rest = sum_no_greater xs ys (omega (arith, same)) (λ k below. each (suc k) (omega (arith, below))) in
    let first : x ≤ y = each 0 (omega arith) in
    omega (arith, rest, first, sum_by-cons (λ (n : ℕ). n) x xs, sum_by-cons (λ (n : ℕ). n) y ys)

-- ---- counts
abbrev one_if : Bool → ℕ
one_if b = cond b 1 0

module _ (test : ℕ → Bool) where
  count_none : (xs : List ℕ) → All (λ x. test x ≡ false) xs → count_by test xs ≡ 0
  count_none xs fails =
      let no_more = sum_by-le (λ x. cond (test x) 1 0) 0 xs (λ k d below. omega (arith, ap one_if (fails k d below))) in
      omega (arith, no_more)

  -- where the test fails at so many indices, so many elements are not counted
  count_spares : (passing : ℕ) → test passing ≡ true → (indices xs : List ℕ) → Pairwise ◌≢◌ indices
      → All (λ index. (index < length xs) × (test (get_or xs index 0) ≡ false)) indices → count_by test xs + length indices ≤ length xs
  count_spares passing passes [] xs apart fails = omega (arith, count_by-le-length test xs)
  count_spares passing passes (index ∷ indices) xs apart fails =
      let at = fails 0 0 (omega arith) in
      let changed = sum_by-set (λ x. cond (test x) 1 0) xs index passing 0 at.0 in
      let before : one_if (test (get_or xs index 0)) ≡ 0 = ap one_if at.1 in
      let after : one_if (test passing) ≡ 1 = ap one_if passes in
      let rest = count_spares passing passes indices (set xs index passing) apart.1 (λ k d below.
      let was = fails (suc k) d (omega (arith, below)) in (
        omega (arith, was.0, length-set xs index passing),
        ap test (get_or-set_other xs index (get_or indices k d) passing 0 (λ e. apart.0 k d below (sym e)))
            ∙ was.1,
      )) in
      omega (arith, changed, before, after, rest, length-set xs index passing)

-- ---- own segments
-- a chain begins with its first segment
pub first_among : (heap : Heap) (most number : ℕ) → 0 < most → 1 ≤ number → Contains (segments_from heap most number) (number - 1)
first_among heap zero number some at_least = absurd (omega (arith, some))
first_among heap (suc most) number some at_least =
    subst (λ xs. Contains xs (number - 1))
    (sym (cond-false (number == 0) [] ((number - 1) ∷ segments_from heap most (slice_index heap.links (number - 1)))
    (ne_eqb number 0 (omega (arith, at_least)))))
    (0, omega arith, refl)

module _ (heap : Heap) (lanes : HasLanes heap) where
  -- a lane's own segment is in use, and is one of the lane
  pub own_below : (lane : ℕ) → lane < length heap.lanes → own_of heap lane < heap.pool
  own_below lane below = let own = lanes.own lane below in omega (arith, own.0, own.1)

  pub own_among : (lane : ℕ) → lane < length heap.lanes → Contains (lane_segments heap lane) (own_of heap lane)
  own_among lane below =
      let own = lanes.own lane below in
      first_among heap (length heap.segments) (slice_index heap.lanes lane) (omega (arith, own.0, own.1, lanes.pool)) own.0

  -- two lanes have two own segments
  pub own_apart : (lane other : ℕ) → lane < length heap.lanes → other < length heap.lanes → lane ≢ other → own_of heap lane ≢ own_of heap other
  own_apart lane other below other_below apart same =
      apart (lanes.one_lane (own_of heap lane) lane other below other_below (own_among lane below)
      (subst (Contains (lane_segments heap other)) (sym same) (own_among other other_below)))

  abbrev owns : List ℕ
  owns = map (λ number. number - 1) heap.lanes

  owns_apart : Pairwise ◌≢◌ owns
  owns_apart =
      let many : length owns ≡ length heap.lanes = length-map heap.lanes (λ number. number - 1) in
      Pairwise-from_indices ◌≢◌ owns (λ i j d before below same.
      own_apart i j (omega (arith, many, before, below)) (omega (arith, many, below)) (omega (arith, before))
      (sym (own_at i d (omega (arith, many, before, below))) ∙ same ∙ own_at j d (omega (arith, many, below))))
    where
      own_at : (k d : ℕ) → k < length heap.lanes → get_or owns k d ≡ own_of heap k
      own_at k d below = get_or-map (λ number. number - 1) heap.lanes k 0 d below

  -- the own segments aren't sealed, nor are the unused ones
  pub sealed_bound : sealed_of heap + length heap.lanes ≤ heap.pool
  sealed_bound =
      let sealed = λ (gate : ℕ). gate == GATE_SEALED in
      let used = take heap.pool heap.gates in
      let others = drop heap.pool heap.gates in
      let used_len : length used ≡ heap.pool = length-take-le heap.pool heap.gates (omega (arith, lanes.pool, lanes.gates)) in
      let others_len = length-drop heap.pool heap.gates in
      let both : sealed_of heap ≡ count_by sealed used + count_by sealed others = ap (count_by sealed) (sym (take-append-drop heap.pool heap.gates))
      ∙ sum_by-append (λ gate. one_if (sealed gate)) used others in
      let none = count_none sealed others (λ k d below.
      let unused = lanes.unused (heap.pool + k) (omega arith) (omega (arith, below, others_len, lanes.gates)) in
      ap sealed (get_or_default others k d 0 below ∙ get_or-drop heap.pool heap.gates k 0 ∙ unused.gate)) in
      let many : length owns ≡ length heap.lanes = length-map heap.lanes (λ number. number - 1) in
      let spares = count_spares sealed GATE_SEALED refl owns used owns_apart (λ k d below.
      let lane : k < length heap.lanes = omega (arith, below, many) in
      let at : get_or owns k d ≡ own_of heap k = get_or-map (λ number. number - 1) heap.lanes k 0 d lane in
      let inside = own_below k lane in (
        omega (arith, at, inside, used_len),
        ap (λ index. sealed (get_or used index 0)) at
            ∙ ap sealed (get_or-take heap.pool heap.gates (own_of heap k) 0 inside ∙ lanes.own_open k lane),
      )) in
      omega (arith, both, none, spares, many, used_len)

-- ---- needs
needs_bound : (lists : List (List KeyNumbers)) (heap : Heap) → HasRows mail_layout lists heap → sum heap.needs ≤ postings_in lists
needs_bound lists heap rows =
    let many = length-map lists length in
    let each = sum_no_greater heap.needs (map length lists) (omega (arith, rows.needs, many)) (λ k below.
    let here : k < length lists = omega (arith, below, rows.needs) in
    let back : k + 1 - 1 ≡ k = omega arith in
    let to_come = rows.to_come (k + 1) (omega arith) (omega (arith, here)) in
    let need : need_of heap (k + 1) ≡ get_or heap.needs k 0 = ap (λ at. get_or heap.needs at 0) back in
    let long : length (list_of lists (k + 1)) ≡ get_or (map length lists) k 0 = ap (λ at. length (get_or lists at [])) back
    ∙ sym (get_or-map length lists k [] 0 here) in
    omega (arith, to_come, need, long)) in
    omega (arith, each, sum-map length lists)

-- a good index leaves room for no more commits than the opening of its lists
pub budget_bound : (lists : List (List KeyNumbers)) (heap : Heap) → IsGoodIndex mail_layout lists heap → length heap.lanes ≡ 8
    → budget_of heap ≤ postings_in lists + 2 * (length heap.segments - 8)
budget_bound lists heap good eight =
    let lanes = good.grows.index.lanes in
    omega (arith, needs_bound lists heap good.rows, sealed_bound heap lanes, lanes.pool, eight)

opening_budget : (lists : List (List KeyNumbers)) (count : ℕ) → 8 ≤ count → budget_of (opening_heap lists count) ≡ postings_in lists + 2 * (count - 8)
opening_budget lists count lanes =
    let sealed = λ (gate : ℕ). gate == GATE_SEALED in
    let many = length-map (range_with_len 0 count) opening_segment in
    let IsNot : ℕ → Type 0 = λ gate. sealed gate ≡ false in
    let gates : count_by sealed (opening_gates count)
    ≡ 0 = count_none sealed (opening_gates count) (All-append IsNot (replicate 8 1) (replicate (count - 8) 0) (All-replicate IsNot 8 1 refl)
    (All-replicate IsNot (count - 8) 0 refl)) in
    omega (arith, sum-map length lists, many, length-range_with_len 0 count, gates)

-- a good memory has no greater budget than the opening
pub budget_falls : (lists : List (List KeyNumbers)) (opening memory : List ℕ) → IsGoodMail lists opening memory
    → mail_budget lists memory ≤ mail_budget lists opening
budget_falls lists opening memory good =
    let sizes = sizes_of lists in
    let many = length-map (range_with_len 0 sizes.segments) (λ segment. words_in memory (region_of sizes segment)) in
    let bound = budget_bound lists (mail_heap lists memory) good.index (length-take-le 8 (drop 1 memory) (omega (arith, length-drop 1 memory, good.size))) in
    let is : mail_budget lists opening ≡ budget_of (opening_heap lists sizes.segments) = ap (mail_budget lists) good.opened
    ∙ ap budget_of (opening_parts lists sizes.segments (omega arith)) in
    omega (arith, bound, is, many, length-range_with_len 0 sizes.segments, opening_budget lists sizes.segments (omega arith))
