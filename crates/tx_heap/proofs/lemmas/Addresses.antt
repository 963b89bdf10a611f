-- The addresses of an index: each lies in one part of the memory, and the segments are well-formed regions of it.
use Rattle.std.proofs.Common.{◌≡◌, ℕ, ◌+◌, ◌<◌, ◌≤◌, ◌⊎◌, Some, length, get_or, refl, sym, ◌∙◌, ap, subst, zero-add, arith, inl, inr}
use Rattle.std.specs.Prelude.{Contains}
use Rattle.std.proofs.lemmas.Bool.{cases_lt}
use Rattle.std.proofs.lemmas.List.FromFn.{get_or-map-range_with_len, length-map-range_with_len}
use Rattle.tx_model.specs.declared.gate.Region.{Region}
use Rattle.tx_model.specs.declared.gate.TheConstants.{GATE_UNUSED, GATE_OPEN}
use Rattle.tx_model.specs.declared.view.Attempt.{Attempt}
use Rattle.tx_model.specs.Words.{HasAddress}
use Rattle.tx_model.specs.Attempt.{gate_value, MayRead, MayWrite}
use Rattle.tx_model.specs.Made.{IsIn}
use Rattle.tx_heap.specs.Layout.{Sizes, gate_at, link_at, base_at, region_of, regions_of, segment_len}

-- ---- the list of regions
pub region_at_is : (sizes : Sizes) (segment : ℕ) (d : Region) → segment < sizes.segments → get_or (regions_of sizes) segment d ≡ region_of sizes segment
region_at_is sizes segment d below =
    get_or-map-range_with_len (region_of sizes) 0 sizes.segments segment segment d below (zero-add segment)

pub length-regions : (sizes : Sizes) → length (regions_of sizes) ≡ sizes.segments
length-regions sizes = length-map-range_with_len (region_of sizes) 0 sizes.segments

pub has_region_of : (sizes : Sizes) (segment : ℕ) → segment < sizes.segments → Contains (regions_of sizes) (region_of sizes segment)
has_region_of sizes segment below =
    (segment, omega (arith, below, length-regions sizes), region_at_is sizes segment (region_of sizes segment) below)

-- each region is that of a segment
pub which_region : (sizes : Sizes) (region : Region) → Contains (regions_of sizes) region → (segment : ℕ) × (segment < sizes.segments)
    × (region ≡ region_of sizes segment)
which_region sizes region (segment, below, at) =
    let inside : segment < sizes.segments = omega (arith, below, length-regions sizes) in
    (segment, inside, sym at ∙ region_at_is sizes segment region inside)

-- ---- what lies in a region
-- an address in the region of a segment is one of its words, and lies behind all gates and links
pub in_region : (sizes : Sizes) (segment addr : ℕ) → IsIn addr (region_of sizes segment) → (base_at sizes segment ≤ addr)
    × (addr < base_at sizes segment + segment_len)
in_region sizes segment addr inside = inside

-- a word of a segment lies in no other one
pub one_region : (sizes : Sizes) (segment other offset : ℕ) → offset < segment_len → IsIn (base_at sizes segment + offset) (region_of sizes other) → other
    ≡ segment
one_region sizes segment other offset below inside =
    elim (cases_lt other segment) [
      | inl before ↦ absurd (omega (arith, before, below, inside.1))
      | inr from ↦
          elim (cases_lt segment other) [
            | inl after ↦ absurd (omega (arith, after, below, inside.0))
            | inr to ↦ omega (arith, from, to)
          ]
    ]

-- a word below the segments lies in none
pub below_segments : (sizes : Sizes) (addr segment : ℕ) → addr < base_at sizes 0 → IsIn addr (region_of sizes segment) → ⊥
below_segments sizes addr segment below inside = omega (arith, below, inside.0)

-- ---- what an attempt may do there
-- a word below the segments may be read
pub may_read_below : (sizes : Sizes) (attempt : Attempt) (addr : ℕ) → addr < base_at sizes 0 → MayRead (regions_of sizes) attempt addr
may_read_below sizes attempt addr below = record {
  gate_read = λ region among inside. absurd (in_none region among inside);
  readable = λ region among inside. absurd (in_none region among inside);
  not_published = λ region among inside. absurd (in_none region among inside);
}
  where
    in_none : (region : Region) → Contains (regions_of sizes) region → IsIn addr region → ⊥
    in_none region among inside =
        let (segment, here, is) = which_region sizes region among in
        below_segments sizes addr segment below (subst (IsIn addr) is inside)

-- a word below the segments that is no gate may be written
pub may_write_plain : (sizes : Sizes) (attempt : Attempt) (addr value : ℕ) → addr < base_at sizes 0 → (addr < gate_at sizes 0) ⊎ (link_at sizes 0 ≤ addr)
    → MayWrite (regions_of sizes) attempt addr value
may_write_plain sizes attempt addr value below plain = record {
  gate_read = λ region among inside. absurd (in_none region among inside);
  writable = λ region among inside. absurd (in_none region among inside);
  opens = λ region among same.
      let (segment, here, is) = which_region sizes region among in
      absurd (no_gate segment here (same ∙ ap (λ (r : Region). r.gate) is));
}
  where
    in_none : (region : Region) → Contains (regions_of sizes) region → IsIn addr region → ⊥
    in_none region among inside =
        let (segment, here, is) = which_region sizes region among in
        below_segments sizes addr segment below (subst (IsIn addr) is inside)

    no_gate : (segment : ℕ) → segment < sizes.segments → addr ≡ gate_at sizes segment → ⊥
    no_gate segment here same =
        elim plain [
          | inl before ↦ omega (arith, before, same)
          | inr behind ↦ omega (arith, behind, same, here)
        ]

-- a gate may be opened that is unused in the attempt
pub may_open : (sizes : Sizes) (attempt : Attempt) (segment : ℕ) → segment < sizes.segments → gate_value attempt (gate_at sizes segment) ≡ Some GATE_UNUSED
    → MayWrite (regions_of sizes) attempt (gate_at sizes segment) GATE_OPEN
may_open sizes attempt segment below unused = record {
  gate_read = λ region among inside. absurd (in_none region among inside);
  writable = λ region among inside. absurd (in_none region among inside);
  opens = λ region among same. (unused, refl);
}
  where
    in_none : (region : Region) → Contains (regions_of sizes) region → IsIn (gate_at sizes segment) region → ⊥
    in_none region among inside =
        let (other, here, is) = which_region sizes region among in
        below_segments sizes (gate_at sizes segment) other (omega (arith, below)) (subst (IsIn (gate_at sizes segment)) is inside)

-- a word of a segment may be read and written where its gate was read, and is open in the attempt
pub may_read_open : (sizes : Sizes) (attempt : Attempt) (segment offset : ℕ) → offset < segment_len → HasAddress attempt.reads (gate_at sizes segment)
    → gate_value attempt (gate_at sizes segment) ≡ Some GATE_OPEN → (Contains attempt.published (region_of sizes segment) → ⊥)
    → MayRead (regions_of sizes) attempt (base_at sizes segment + offset)
may_read_open sizes attempt segment offset below read is_open not_published = record {
  gate_read = λ region among inside. subst (λ (r : Region). HasAddress attempt.reads r.gate) (sym (here region among inside)) read;
  readable = λ region among inside. inl (ap (λ (r : Region). gate_value attempt r.gate) (here region among inside) ∙ is_open);
  not_published = λ region among inside published. not_published (subst (Contains attempt.published) (here region among inside) published);
}
  where
    here : (region : Region) → Contains (regions_of sizes) region → IsIn (base_at sizes segment + offset) region → region ≡ region_of sizes segment
    here region among inside =
        let (other, other_below, is) = which_region sizes region among in
        is ∙ ap (region_of sizes) (one_region sizes segment other offset below (subst (IsIn (base_at sizes segment + offset)) is inside))

pub may_write_open : (sizes : Sizes) (attempt : Attempt) (segment offset value : ℕ) → segment < sizes.segments → offset < segment_len
    → HasAddress attempt.reads (gate_at sizes segment) → gate_value attempt (gate_at sizes segment) ≡ Some GATE_OPEN
    → MayWrite (regions_of sizes) attempt (base_at sizes segment + offset) value
may_write_open sizes attempt segment offset value segment_below below read is_open = record {
  gate_read = λ region among inside. subst (λ (r : Region). HasAddress attempt.reads r.gate) (sym (here region among inside)) read;
  writable = λ region among inside. ap (λ (r : Region). gate_value attempt r.gate) (here region among inside) ∙ is_open;
  opens = λ region among same.
      let (other, other_below, is) = which_region sizes region among in
      absurd (omega (arith, same, ap (λ (r : Region). r.gate) is, other_below));
}
  where
    here : (region : Region) → Contains (regions_of sizes) region → IsIn (base_at sizes segment + offset) region → region ≡ region_of sizes segment
    here region among inside =
        let (other, other_below, is) = which_region sizes region among in
        is ∙ ap (region_of sizes) (one_region sizes segment other offset below (subst (IsIn (base_at sizes segment + offset)) is inside))
