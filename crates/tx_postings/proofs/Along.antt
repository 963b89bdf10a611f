-- A way along the segments of a key's lane.
use Rattle.std.proofs.Common.{◌≡◌, ◌≢◌, ℕ, suc, ◌-◌, ◌<◌, List, [], ◌∷◌, ◌++◌, length, get_or, refl, sym, ◌∙◌, ap, subst, arith}
use Rattle.std.specs.Prelude.{Contains}
use Rattle.std.proofs.lemmas.List.{append-nil, append_assoc}
use Rattle.std.proofs.lemmas.List.Elements.{Contains-append_right}
use Rattle.mail_words.specs.Key.{KeyNumbers}
use Rattle.tx_heap.specs.Layout.{Layout}
use Rattle.tx_heap.specs.Heap.{Heap, gate_of, segments_from, lane_segments}
use Rattle.tx_heap.specs.Index.{HasLanes}
use Rattle.tx_heap.proofs.lemmas.Lanes.{contains_first, chain_end, chain_step, chain_below, chain_long}
use Rattle.tx_postings.specs.Listing.{AreOfSegment, AreOfSegments, AreListed, IsCutShort}

-- the segments of the lane in front of the one with this number have these messages
pub record IsAlong (layout : Layout) (key : KeyNumbers) (heap : Heap) (number : ℕ) (messages : List ℕ) : Type 0 where
  pub front : List ℕ
  pub split : lane_segments heap (layout.lane_of key) ≡ front ++ segments_from heap (length heap.segments) number
  pub listed : AreOfSegments layout key heap front messages

-- those of one more segment come behind
pub one_more : (layout : Layout) (key : KeyNumbers) (heap : Heap) (front messages : List ℕ) (segment : ℕ) (here : List ℕ)
    → AreOfSegments layout key heap front messages → AreOfSegment layout key heap segment here
    → AreOfSegments layout key heap (front ++ segment ∷ []) (messages ++ here)
one_more layout key heap [] messages segment here none is = (here, [], ap (λ ms. ms ++ here) none ∙ sym (append-nil here), is, refl)
one_more layout key heap (first ∷ front) messages segment here (own, rest, both, of_first, of_front) is =
    (own, rest ++ here, ap (λ ms. ms ++ here) both ∙ append_assoc own rest here, of_first, one_more layout key heap front rest segment here of_front is)

module _ (layout : Layout) (key : KeyNumbers) (heap : Heap) (lanes : HasLanes heap) (below : layout.lane_of key < length heap.lanes) where
  abbrev own_number : ℕ
  own_number = get_or heap.lanes (layout.lane_of key) 0

  abbrev segments : ℕ → List ℕ
  segments number = segments_from heap (length heap.segments) number

  pub along_begins : IsAlong layout key heap own_number []
  along_begins = record { front = []; split = refl; listed = refl }

  module _ {number : ℕ} {messages : List ℕ} (along : IsAlong layout key heap number messages) where
    -- the chain has ended
    pub along_ended : number ≡ 0 → AreListed layout key heap messages
    along_ended none =
        subst (λ all. AreOfSegments layout key heap all messages)
        (sym (along.split ∙ ap (λ rest. along.front ++ rest) (chain_end heap (length heap.segments) number none) ∙ append-nil along.front)) along.listed

    module _ (some : number ≢ 0) where
      abbrev pub next : ℕ
      next = get_or heap.links (number - 1) 0

      size : length heap.segments ≡ suc (length heap.segments - 1)
      size = let own = lanes.own (layout.lane_of key) below in omega (arith, own.0, own.1, lanes.pool)

      step : segments number ≡ (number - 1) ∷ segments_from heap (length heap.segments - 1) next
      step = ap (λ most. segments_from heap most number) size ∙ chain_step heap (length heap.segments - 1) number (omega (arith, some))

      -- the segment is one of the lane
      pub of_lane : Contains (lane_segments heap (layout.lane_of key)) (number - 1)
      of_lane =
          subst (λ all. Contains all (number - 1)) (sym along.split)
          (Contains-append_right along.front (segments number) (number - 1)
          (subst (λ all. Contains all (number - 1)) (sym step) (contains_first (number - 1) (segments_from heap (length heap.segments - 1) next))))

      pub in_use : number - 1 < heap.pool
      in_use =
          let own = lanes.own (layout.lane_of key) below in
          omega (arith, own.1, chain_below heap heap.pool lanes.fall (length heap.segments) own_number (number - 1) own.1 of_lane)

      -- the one behind it has a lower number
      pub link_falls : next < number
      link_falls = omega (arith, lanes.fall (number - 1) in_use, some)

      rest_is : segments number ≡ (number - 1) ∷ segments next
      rest_is =
          let used = in_use in
          let falls = lanes.fall (number - 1) used in
          step
          ∙ ap (λ rest. (number - 1) ∷ rest)
          (chain_long heap heap.pool lanes.fall (length heap.segments - 1) (length heap.segments) next (omega (arith, falls, used, lanes.pool))
          (omega (arith, falls, used, lanes.pool)) (omega (arith, falls, used)))

      split_here : lane_segments heap (layout.lane_of key) ≡ along.front ++ (number - 1) ∷ segments next
      split_here = along.split ∙ ap (λ rest. along.front ++ rest) rest_is

      pub along_next : (here : List ℕ) → AreOfSegment layout key heap (number - 1) here → IsAlong layout key heap next (messages ++ here)
      along_next here is = record {
        front = along.front ++ (number - 1) ∷ [];
        split = split_here ∙ sym (append_assoc along.front ((number - 1) ∷ []) (segments next));
        listed = one_more layout key heap along.front messages (number - 1) here along.listed is;
      }

      pub along_cut : gate_of heap (number - 1) ≡ 2 → IsCutShort layout key (number - 1) heap messages
      along_cut is_sealed = record { front = along.front; behind = segments next; among = split_here; is_sealed = is_sealed; listed = along.listed }
