-- The segments are well-formed regions of the opening, and its size.
use Rattle.std.proofs.Common.{◌≡◌, ℕ, ◌+◌, ◌^◌, ◌<◌, ◌≤◌, ◌⊎◌, List, length, get_or, sym, ◌∙◌, ap, subst, arith, inl, inr}
use Rattle.std.proofs.lemmas.Bool.{cases_lt}
use Rattle.mail_words.specs.Key.{KeyNumbers}
use Rattle.tx_model.specs.declared.gate.Region.{Region}
use Rattle.tx_model.specs.Made.{IsIn, LieApart, no_region, region_at, AreWellFormed}
use Rattle.tx_heap.specs.Layout.{Sizes, sizes_of, gate_at, region_of, regions_of, IsWithinLimits}
use Rattle.tx_heap.specs.Heap.{Heap, gate_of}
use Rattle.tx_heap.specs.Opening.{opening_of}
use Rattle.tx_heap.specs.OpeningLaw.{opening_heap, opening_parts, length-opening}
use Rattle.tx_heap.proofs.lemmas.Addresses.{region_at_is, length-regions, which_region}
use Rattle.tx_heap.proofs.lemmas.HeapWords.{gate_word}
use Rattle.tx_heap.proofs.lemmas.Opening.{open_gate, unused_gate}

module _ (sizes : Sizes) where
  apart : (i j : ℕ) → i < j → j < sizes.segments → LieApart (region_of sizes i) (region_of sizes j)
  apart i j before below = inl (omega (arith, before))

  gate_outside : (i j : ℕ) → i < sizes.segments → IsIn (gate_at sizes i) (region_of sizes j) → ⊥
  gate_outside i j below inside = omega (arith, below, inside.0)

module _ (lists : List (List KeyNumbers)) where
  gate_opens : (segment : ℕ) → segment < (sizes_of lists).segments → (get_or (opening_of lists) (gate_at (sizes_of lists) segment) 0 ≡ 0)
      ⊎ (get_or (opening_of lists) (gate_at (sizes_of lists) segment) 0 ≡ 1)
  gate_opens segment below =
      let count = (sizes_of lists).segments in
      let enough : 8 ≤ count = omega arith in
      let is : get_or (opening_of lists) (gate_at (sizes_of lists) segment) 0 ≡ gate_of (opening_heap lists count) segment =
      sym (gate_word (sizes_of lists) (opening_of lists) segment below) ∙ ap (λ (heap : Heap). gate_of heap segment) (opening_parts lists count enough) in
      elim (cases_lt segment 8) [
        | inl first ↦ inr (is ∙ open_gate lists count enough segment first)
        | inr from ↦ inl (is ∙ unused_gate lists count enough segment from)
      ]

  pub opening_well_formed : AreWellFormed (opening_of lists) (regions_of (sizes_of lists))
  opening_well_formed =
      let sizes = sizes_of lists in
      record {
        lie_in = λ region among.
            let (segment, below, is) = which_region sizes region among in
            subst (λ (r : Region). (0 < r.len) × (r.base + r.len ≤ length (opening_of lists)) × (r.gate < length (opening_of lists))) (sym is)
            (let size = length-opening lists sizes.segments (omega arith) in (omega arith, omega (arith, size, below), omega (arith, size, below)));
        lie_apart = λ i j before below.
            let here : j < sizes.segments = omega (arith, below, length-regions sizes) in
            subst (λ (r : Region). LieApart r (region_at (regions_of sizes) j)) (sym (region_at_is sizes i no_region (omega (arith, before, here))))
            (subst (LieApart (region_of sizes i)) (sym (region_at_is sizes j no_region here)) (apart sizes i j before here));
        gates_apart = λ i j before below same.
            let here : j < sizes.segments = omega (arith, below, length-regions sizes) in
            let one = ap (λ (r : Region). r.gate) (region_at_is sizes i no_region (omega (arith, before, here))) in
            let other = ap (λ (r : Region). r.gate) (region_at_is sizes j no_region here) in
            omega (arith, one, other, same, before);
        gates_outside = λ region other among among_other inside.
            let (i, below, is) = which_region sizes region among in
            let (j, other_below, other_is) = which_region sizes other among_other in
            gate_outside sizes i j below (subst (IsIn (gate_at sizes i)) other_is (subst (λ (r : Region). IsIn r.gate other) is inside));
        gates_opening = λ region among.
            let (segment, below, is) = which_region sizes region among in
            elim (gate_opens segment below) [
              | inl unused ↦ inl (ap (λ (r : Region). get_or (opening_of lists) r.gate 0) is ∙ unused)
              | inr opens ↦ inr (inl (ap (λ (r : Region). get_or (opening_of lists) r.gate 0) is ∙ opens))
            ];
      }

  -- and has no more words than a memory may have
  pub opening_size : IsWithinLimits (sizes_of lists) → (1 ≤ length (opening_of lists)) × (length (opening_of lists) ≤ 2 ^ 27)
  opening_size limits =
      let size = length-opening lists (sizes_of lists).segments (omega arith) in
      (omega (arith, size), omega (arith, size, limits.messages, limits.segments))
