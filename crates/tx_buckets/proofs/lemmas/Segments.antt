-- An index in which the words of one open segment change.
use Rattle.std.proofs.Common.{◌≡◌, ◌≢◌, ℕ, ◌<◌, List, [], length, get_or, refl, sym, ◌∙◌, ap, subst, arith, inl, inr}
use Rattle.std.specs.Prelude.{Contains}
use Rattle.std.specs.List.{All}
use Rattle.std.proofs.lemmas.Bool.{cases_eq, cases_lt}
use Rattle.std.proofs.lemmas.List.{length-set, get_or-set_same, get_or-set_other}
use Rattle.tx_heap.specs.Layout.{Layout}
use Rattle.tx_heap.specs.Segment.{IsInForm}
use Rattle.tx_heap.specs.Heap.{Heap, gate_of, segment_of, segments_from, lane_segments}
use Rattle.tx_heap.specs.Index.{HasLanes, IsSegment, IsIndex}
use Rattle.tx_heap.proofs.lemmas.Lanes.{chain_below, chain_same}
use Rattle.tx_buckets.proofs.lemmas.Writes.{in_segment}

-- an open segment of a lane is in form
pub open_in_form : {layout : Layout} {heap : Heap} (lane segment : ℕ) → IsIndex layout heap → lane < length heap.lanes
    → Contains (lane_segments heap lane) segment → gate_of heap segment ≡ 1 → IsInForm layout lane (segment_of heap segment)
open_in_form {layout} {heap} lane segment index below among is_open = by_gate (index.segments lane segment below among)
  where
    by_gate : IsSegment layout lane (gate_of heap segment) (segment_of heap segment) → IsInForm layout lane (segment_of heap segment)
    by_gate (inl (gates, form)) = form
    by_gate (inr (is_packed, packed, of_lane)) = absurd (omega (arith, is_packed, is_open))

-- an open segment is one of a lane
pub open_lane : {layout : Layout} {heap : Heap} (segment : ℕ) → IsIndex layout heap → segment < length heap.segments → gate_of heap segment ≡ 1
    → (lane : ℕ) × (lane < length heap.lanes) × Contains (lane_segments heap lane) segment
open_lane {layout} {heap} segment index inside is_open =
    elim (cases_lt segment heap.pool) [
      | inl used ↦ index.lanes.reached segment used
      | inr from ↦ absurd (omega (arith, (index.lanes.unused segment from inside).gate, is_open))
    ]

module _ {layout : Layout} {heap : Heap} (index : IsIndex layout heap) (segment : ℕ) (words : List ℕ) where
  abbrev changed : Heap
  changed = in_segment heap segment words

  pub changed_there : segment < length heap.segments → segment_of changed segment ≡ words
  changed_there below = get_or-set_same heap.segments segment words [] below

  pub changed_other : (other : ℕ) → other ≢ segment → segment_of changed other ≡ segment_of heap other
  changed_other other apart = get_or-set_other heap.segments segment other words [] apart

  -- the lanes have the same segments
  pub same_lane : (lane : ℕ) → lane < length heap.lanes → lane_segments changed lane ≡ lane_segments heap lane
  same_lane lane below =
      ap (λ most. segments_from changed most (get_or heap.lanes lane 0)) (length-set heap.segments segment words)
      ∙ chain_same heap changed heap.pool index.lanes.fall (λ s inside. refl) (length heap.segments) (get_or heap.lanes lane 0) (index.lanes.own lane below).1

  -- a segment of a lane is in use
  pub lane_in_use : (lane other : ℕ) → lane < length heap.lanes → Contains (lane_segments heap lane) other → other < heap.pool
  lane_in_use lane other below among =
      let own = index.lanes.own lane below in
      let inside = chain_below heap heap.pool index.lanes.fall (length heap.segments) (get_or heap.lanes lane 0) other own.1 among in
      omega (arith, own.1, inside)

  module _ (lane : ℕ) (below : lane < length heap.lanes) (among : Contains (lane_segments heap lane) segment) where
    used : segment < heap.pool
    used = lane_in_use lane segment below among

    pub lanes_changed : HasLanes changed
    lanes_changed = record {
      gates = index.lanes.gates ∙ sym (length-set heap.segments segment words);
      links = index.lanes.links ∙ sym (length-set heap.segments segment words);
      pool = omega (arith, index.lanes.pool, length-set heap.segments segment words);
      own = index.lanes.own;
      own_open = index.lanes.own_open;
      fall = index.lanes.fall;
      reached = λ s inside. let (l, l_below, there) = index.lanes.reached s inside in
          (l, l_below, subst (λ xs. Contains xs s) (sym (same_lane l l_below)) there);
      one_lane = λ s l other l_below other_below there also.
          index.lanes.one_lane s l other l_below other_below (subst (λ xs. Contains xs s) (same_lane l l_below) there)
          (subst (λ xs. Contains xs s) (same_lane other other_below) also);
      unused = λ s from inside.
          let was = index.lanes.unused s from (omega (arith, inside, length-set heap.segments segment words)) in
          record {
            gate = was.gate;
            link = was.link;
            words = subst (All (λ word. word ≡ 0)) (sym (changed_other s (λ e. omega (arith, e, used, from)))) was.words;
          };
    }

    -- it is an index still, where the words are in form
    pub index_changed : gate_of heap segment ≡ 1 → IsInForm layout lane words → IsIndex layout changed
    index_changed is_open form = record {
      lanes = lanes_changed;
      segments = λ l s l_below there.
          let was = subst (λ xs. Contains xs s) (same_lane l l_below) there in
          elim (cases_eq s segment) [
            | inl same ↦
                let own : l ≡ lane = index.lanes.one_lane segment l lane l_below below (subst (Contains (lane_segments heap l)) same was) among in
                inl (
                  inl (ap (gate_of heap) same ∙ is_open),
                  subst (λ n. IsInForm layout n (segment_of changed s)) (sym own)
                      (subst (IsInForm layout lane) (sym (ap (segment_of changed) same ∙ changed_there (omega (arith, used, index.lanes.pool)))) form),
                )
            | inr other ↦ subst (IsSegment layout l (gate_of heap s)) (sym (changed_other s other)) (index.segments l s l_below was)
          ];
    }
