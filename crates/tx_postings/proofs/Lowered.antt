-- An index with the rows of some keys of a message: it grows key by key, and with the need lowered it is good again.
use Rattle.std.proofs.Common.{min, count_by, ◌==◌, ◌≡◌, ◌≢◌, ℕ, ◌+◌, ◌-◌, ◌/◌, ◌<◌, ◌≤◌, ◌⊎◌, Option, List, [], ◌∷◌, ◌++◌, length, sum, get_or, set, take, drop, refl, sym, ◌∙◌, ap, subst, arith, inl, inr}
use Rattle.std.specs.Prelude.{Contains}
use Rattle.std.proofs.lemmas.Bool.{cases_eq, cases_lt}
use Rattle.tx_model.specs.declared.gate.TheConstants.{GATE_SEALED}
use Rattle.std.proofs.Math.Seq.{take-add}
use Rattle.std.proofs.lemmas.List.{length-append, length-set, length-take, length-take-le, length-drop, take_all, get_or-set_same, get_or-set_other}
use Rattle.std.proofs.lemmas.List.Elements.{Contains-append_cases, Contains-append_right, All-from_get_or, Contains-push, Contains-push_cases, Contains-append_left, Contains-get_or}
use Rattle.std.proofs.lemmas.List.Sums.{sum_by-set}
use Rattle.mail_words.specs.Key.{KeyNumbers}
use Rattle.tx_heap.specs.Layout.{Layout, mail_layout}
use Rattle.tx_heap.specs.Segment.{Row}
use Rattle.tx_heap.specs.Heap.{Heap, own_of, gate_of, need_of, segment_of, lane_segments, budget_of}
use Rattle.tx_heap.specs.Index.{IsIndex, rows_of, own_rows, list_of, added_keys, IsAdded, HasRoom, IsGoodIndex}
use Rattle.tx_heap.specs.BudgetLaw.{own_below}
use Rattle.tx_heap.proofs.lemmas.Lanes.{contains_none, chain_same}
use Rattle.tx_buckets.proofs.lemmas.Lists.{OneMore, more_contains, more_pairwise}
use Rattle.tx_postings.specs.Filling.{IsFilled}
use Rattle.tx_postings.specs.Batch.{batch_of, AddsKeys}
use Rattle.tx_postings.proofs.Posted.{IsPosted, posted_other, posted_row, posted_own, posted_cells}

-- ---- no key yet, and one more
pub filled_none : (layout : Layout) (lists : List (List KeyNumbers)) (message : ℕ) (heap : Heap) → IsGoodIndex layout lists heap
    → IsFilled layout message [] heap heap
filled_none layout lists message heap good = record {
  pool = refl;
  lanes = refl;
  needs = refl;
  gates = refl;
  links = refl;
  many = refl;
  index = good.grows.index;
  cells = good.grows.cells;
  rows = λ row. (λ there. inl there, λ either. elim either [ inl there ↦ there | inr none ↦ absurd (contains_none row.0 none.1) ]);
  once = good.rows.once;
  own = omega arith;
  others = λ segment none. refl;
}

same_row : {key : KeyNumbers} {message : ℕ} {r : Row} → key ≡ r.0 → message ≡ r.1 → ◌≡◌ {A = Row} (key, message) r
same_row {message = message} {r = r} p q = ap (λ k. (k, message)) p ∙ ap (λ m. (r.0, m)) q

rows_turned : (a b : Row) → a ≢ b → b ≢ a
rows_turned a b apart same = apart (sym same)

pub filled_more : {layout : Layout} {message segment : ℕ} {keys : List KeyNumbers} {key : KeyNumbers} {offset : Option ℕ} {old mid new : Heap} (lane : ℕ)
    → lane < length old.lanes → own_of old lane ≡ segment
    → gate_of mid segment ≡ 1 → IsFilled layout message keys old mid → IsPosted layout segment key message offset mid new → IsIndex layout new
    → (Contains (rows_of layout old) (key, message) → ⊥) → (Contains keys key → ⊥) → IsFilled layout message (keys ++ key ∷ []) old new
filled_more {layout} {message} {segment} {keys} {key} {offset} {old} {mid} {new} lane below own is_open filled posted index not_there not_again =
    let only = posted.only in
    let row : OneMore (key, message) (rows_of layout mid) (rows_of layout new) = posted_row posted is_open used in
    record {
      pool = ap (λ (h : Heap). h.pool) only ∙ filled.pool;
      lanes = ap (λ (h : Heap). h.lanes) only ∙ filled.lanes;
      needs = ap (λ (h : Heap). h.needs) only ∙ filled.needs;
      gates = ap (λ (h : Heap). h.gates) only ∙ filled.gates;
      links = ap (λ (h : Heap). h.links) only ∙ filled.links;
      many = ap (λ (h : Heap). length h.segments) only ∙ length-set mid.segments segment (segment_of new segment) ∙ filled.many;
      index = index;
      cells = posted_cells posted is_open filled.cells;
      rows = λ r. (to row r, from row r);
      once =
          more_pairwise row ◌≢◌ rows_turned filled.once
          (All-from_get_or (λ r. (key, message) ≢ r) (rows_of layout mid) (key, message)
          (λ i inside same. new_row (subst (Contains (rows_of layout mid)) (sym same) (Contains-get_or (rows_of layout mid) i (key, message) inside))));
      own = omega (arith, posted_own posted is_open filled.index.lanes lane mid_below mid_own, filled.own, length-append keys (key ∷ []));
      others = λ s apart. posted_other posted s (λ e. apart lane below (own ∙ sym e)) ∙ filled.others s apart;
    }
  where
    mid_below : lane < length mid.lanes
    mid_below = omega (arith, below, ap (λ (ns : List ℕ). length ns) filled.lanes)

    mid_own : own_of mid lane ≡ segment
    mid_own = ap (λ (ns : List ℕ). get_or ns lane 0 - 1) filled.lanes ∙ own

    used : segment < mid.pool
    used = subst (λ s. s < mid.pool) mid_own (own_below mid filled.index.lanes lane mid_below)

    new_row : Contains (rows_of layout mid) (key, message) → ⊥
    new_row there =
        elim ((filled.rows (key, message)).0 there) [
          | inl was ↦ not_there was
          | inr again ↦ not_again again.1
        ]

    to : OneMore (key, message) (rows_of layout mid) (rows_of layout new) → (r : Row) → Contains (rows_of layout new) r → Contains (rows_of layout old) r
        ⊎ ((r.1 ≡ message) × Contains (keys ++ key ∷ []) r.0)
    to row r there =
        elim ((more_contains row r).0 there) [
          | inl here ↦ inr (ap (λ (s : Row). s.1) (sym here), subst (Contains (keys ++ key ∷ [])) (ap (λ (s : Row). s.0) here) (Contains-push keys key))
          | inr before ↦
              elim ((filled.rows r).0 before) [
                | inl was ↦ inl was
                | inr added ↦ inr (added.0, Contains-append_left keys (key ∷ []) r.0 added.1)
              ]
        ]

    from : OneMore (key, message) (rows_of layout mid) (rows_of layout new) → (r : Row) → Contains (rows_of layout old) r
        ⊎ ((r.1 ≡ message) × Contains (keys ++ key ∷ []) r.0) → Contains (rows_of layout new) r
    from row r (inl was) = (more_contains row r).1 (inr ((filled.rows r).1 (inl was)))
    from row r (inr added) =
        elim (Contains-push_cases keys key r.0 added.1) [
          | inl before ↦ (more_contains row r).1 (inr ((filled.rows r).1 (inr (added.0, before))))
          | inr here ↦ (more_contains row r).1 (inl (same_row here (sym added.0)))
        ]

-- ---- with the need lowered
-- the needs stand in no other part
module _ {layout : Layout} {heap : Heap} (index : IsIndex layout heap) (needs : List ℕ) where
  abbrev pub with_needs : Heap
  with_needs = record { pool = heap.pool; lanes = heap.lanes; needs = needs; gates = heap.gates; links = heap.links; segments = heap.segments }

  same_lane : (lane : ℕ) → lane < length heap.lanes → lane_segments with_needs lane ≡ lane_segments heap lane
  same_lane lane below =
      chain_same heap with_needs heap.pool index.lanes.fall (λ s inside. refl) (length heap.segments) (get_or heap.lanes lane 0) (index.lanes.own lane below).1

  pub index_with_needs : IsIndex layout with_needs
  index_with_needs = record {
    lanes = record {
      gates = index.lanes.gates;
      links = index.lanes.links;
      pool = index.lanes.pool;
      own = index.lanes.own;
      own_open = index.lanes.own_open;
      fall = index.lanes.fall;
      reached =
          λ s inside. let (l, l_below, there) = index.lanes.reached s inside in (l, l_below, subst (λ xs. Contains xs s) (sym (same_lane l l_below)) there);
      one_lane = λ s l other l_below other_below there also.
          index.lanes.one_lane s l other l_below other_below (subst (λ xs. Contains xs s) (same_lane l l_below) there)
          (subst (λ xs. Contains xs s) (same_lane other other_below) also);
      unused = λ s from inside. let was = index.lanes.unused s from inside in record { gate = was.gate; link = was.link; words = was.words };
    };
    segments = λ l s l_below there. index.segments l s l_below (subst (λ xs. Contains xs s) (same_lane l l_below) there);
  }

take_of_take : {X : Type 0} (most : ℕ) (xs : List X) → take (length (take most xs)) xs ≡ take most xs
take_of_take most xs =
    elim (cases_lt most (length xs)) [
      | inl less ↦ ap (λ n. take n xs) (length-take-le most xs (omega (arith, less)))
      | inr all ↦
          let whole = take_all most xs (omega (arith, all)) in
          ap (λ (ys : List _). take (length ys) xs) whole ∙ take_all (length xs) xs (omega arith) ∙ sym whole
    ]

module _ (lists : List (List KeyNumbers)) (message : ℕ) {old new : Heap} (good : IsGoodIndex mail_layout lists old) (from_one : 1 ≤ message)
    (to_last : message ≤ length lists)
    (filled : IsFilled mail_layout message (batch_of lists old message) old new) where
  abbrev list : List KeyNumbers
  list = list_of lists message

  abbrev need : ℕ
  need = need_of old message

  abbrev keys : List KeyNumbers
  keys = batch_of lists old message

  pub need_within : need ≤ length list
  need_within = good.rows.to_come message from_one to_last

  pub keys_many : length keys ≡ min need 16
  keys_many = omega (arith, length-take 16 (drop (length list - need) list), length-drop (length list - need) list, need_within)

  abbrev pub lowered : Heap
  lowered = with_needs filled.index (set new.needs (message - 1) (need - length keys))

  needs_long : message - 1 < length new.needs
  needs_long = omega (arith, ap (λ (ns : List ℕ). length ns) filled.needs, good.rows.needs, from_one, to_last)

  need_here : need_of lowered message ≡ need - length keys
  need_here = get_or-set_same new.needs (message - 1) (need - length keys) 0 needs_long

  need_other : (other : ℕ) → 1 ≤ other → other ≢ message → need_of lowered other ≡ need_of old other
  need_other other some apart =
      get_or-set_other new.needs (message - 1) (other - 1) (need - length keys) 0 (λ e. apart (omega (arith, e, some, from_one)))
      ∙ ap (λ (ns : List ℕ). get_or ns (other - 1) 0) filled.needs

  -- the keys that are in are those before and the batch
  added_here : added_keys lists lowered message ≡ added_keys lists old message ++ keys
  added_here =
      let from = length list - need in
      let many = keys_many in
      let within = need_within in
      let sum_is : length list - (need - length keys) ≡ from + length keys = omega (arith, many, within) in
      ap (λ n. take (length list - n) list) need_here
      ∙ ap (λ n. take n list) sum_is
      ∙ take-add from (length keys) list
      ∙ ap (λ ks. take from list ++ ks) (take_of_take 16 (drop from list))

  added_other : (other : ℕ) → 1 ≤ other → other ≢ message → added_keys lists lowered other ≡ added_keys lists old other
  added_other other some apart = ap (λ n. take (length (list_of lists other) - n) (list_of lists other)) (need_other other some apart)

  to : (row : Row) → Contains (rows_of mail_layout new) row → IsAdded lists lowered row
  to row there =
      elim ((filled.rows row).0 there) [
        | inl was ↦
            let (some, most, among) = (good.rows.exactly row).0 was in
            elim (cases_eq row.1 message) [
              | inl same ↦ (
                some,
                most,
                subst (λ m. Contains (added_keys lists lowered m) row.0) (sym same)
                    (subst (λ ks. Contains ks row.0) (sym added_here)
                    (Contains-append_left (added_keys lists old message) keys row.0 (subst (λ m. Contains (added_keys lists old m) row.0) same among))),
              )
              | inr apart ↦ (some, most, subst (λ ks. Contains ks row.0) (sym (added_other row.1 some apart)) among)
            ]
        | inr added ↦ (
          omega (arith, added.0, from_one),
          omega (arith, added.0, to_last),
          subst (λ m. Contains (added_keys lists lowered m) row.0) (sym added.0)
              (subst (λ ks. Contains ks row.0) (sym added_here) (Contains-append_right (added_keys lists old message) keys row.0 added.1)),
        )
      ]

  from : (row : Row) → IsAdded lists lowered row → Contains (rows_of mail_layout new) row
  from row (some, most, among) =
      elim (cases_eq row.1 message) [
        | inl same ↦
            elim (Contains-append_cases (added_keys lists old message) keys row.0
            (subst (λ ks. Contains ks row.0) added_here (subst (λ m. Contains (added_keys lists lowered m) row.0) same among))) [
              | inl before ↦
                  (filled.rows row).1 (inl ((good.rows.exactly row).1 (some, most, subst (λ m. Contains (added_keys lists old m) row.0) (sym same) before)))
              | inr added ↦ (filled.rows row).1 (inr (same, added))
            ]
        | inr apart ↦ (filled.rows row).1 (inl ((good.rows.exactly row).1 (some, most, subst (λ ks. Contains ks row.0) (added_other row.1 some apart) among)))
      ]

  needs_sum : sum (set new.needs (message - 1) (need - length keys)) + length keys ≡ sum old.needs
  needs_sum =
      let changed = sum_by-set (λ (n : ℕ). n) new.needs (message - 1) (need - length keys) 0 needs_long in
      let was : get_or new.needs (message - 1) 0 ≡ need = ap (λ (ns : List ℕ). get_or ns (message - 1) 0) filled.needs in
      omega (arith, changed, was, keys_many, ap (λ (ns : List ℕ). sum ns) filled.needs)

  room : HasRoom mail_layout lowered
  room =
      let before : (sum old.needs + own_rows mail_layout old) / 3952 ≤ length old.segments - old.pool = good.grows.room in
      let together : sum (set new.needs (message - 1) (need - length keys)) + own_rows mail_layout new ≡ sum old.needs + own_rows mail_layout old = omega
      (arith, needs_sum, filled.own) in
      subst (λ n. n / 3952 ≤ length new.segments - new.pool) (sym together) (omega (arith, before, filled.many, filled.pool))

  pub lowered_good : IsGoodIndex mail_layout lists lowered
  lowered_good = record {
    grows = record { index = index_with_needs filled.index (set new.needs (message - 1) (need - length keys)); cells = filled.cells; room = room };
    rows = record {
      needs = length-set new.needs (message - 1) (need - length keys) ∙ ap (λ (ns : List ℕ). length ns) filled.needs ∙ good.rows.needs;
      to_come = λ other some most.
          elim (cases_eq other message) [
            | inl same ↦ subst (λ m. need_of lowered m ≤ length (list_of lists m)) (sym same) (omega (arith, need_here, need_within))
            | inr apart ↦ omega (arith, need_other other some apart, good.rows.to_come other some most)
          ];
      once = filled.once;
      exactly = λ row. (to row, from row);
    };
  }

  pub lowered_budget : 0 < need → budget_of lowered < budget_of old
  lowered_budget some =
      let sealed = ap (λ (gates : List ℕ). count_by (λ gate. gate == GATE_SEALED) gates) filled.gates in
      omega (arith, needs_sum, keys_many, some, filled.many, filled.pool, sealed)

  -- and the keys were added
  pub adds_keys : AddsKeys mail_layout message keys old lowered
  adds_keys = record {
    pool = filled.pool;
    lanes = filled.lanes;
    gates = filled.gates;
    links = filled.links;
    needs = ap (λ (ns : List ℕ). set ns (message - 1) (need - length keys)) filled.needs;
    rows = filled.rows;
    others = filled.others;
  }
