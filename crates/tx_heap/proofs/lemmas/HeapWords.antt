-- The parts of a heap in the words of a memory: what each word is, and what a write changes.
use Rattle.std.proofs.Common.{◌≡◌, ◌≢◌, ℕ, zero, suc, ◌+◌, ◌-◌, ◌<◌, ◌≤◌, ◌⊎◌, List, [], ◌∷◌, length, get_or, set, take, drop, refl, sym, ◌∙◌, ap, subst, zero-add, arith, inl, inr}
use Rattle.std.proofs.lemmas.Bool.{cases_eq, cases_lt}
use Rattle.std.proofs.lemmas.List.{length-set, length-take-le, length-drop, get_or-take, get_or-drop, get_or-set_same, get_or-set_other, drop-set-lt, drop-set-add, take-set-le, ext_get_or}
use Rattle.std.proofs.lemmas.List.FromFn.{length-map-range_with_len, get_or-map-range_with_len}
use Rattle.tx_model.specs.Memory.{words_in}
use Rattle.tx_heap.specs.Layout.{Sizes, pool_at, lane_at, need_at, gate_at, link_at, base_at, region_of, segment_len, words_of}
use Rattle.tx_heap.specs.Heap.{heap_of, words_at, gate_of, segment_of, need_of}
use Rattle.tx_heap.specs.OpeningLaw.{map_agree, same_heap}

-- ---- a part of a memory
pub word_in_part : (memory : List ℕ) (from count k : ℕ) → k < count → get_or (words_at memory from count) k 0 ≡ get_or memory (from + k) 0
word_in_part memory from count k below = get_or-take count (drop from memory) k 0 below ∙ get_or-drop from memory k 0

pub length-part : (memory : List ℕ) (from count : ℕ) → from + count ≤ length memory → length (words_at memory from count) ≡ count
length-part memory from count inside = length-take-le count (drop from memory) (omega (arith, inside, length-drop from memory))

-- a write outside of the part
pub part_apart : (memory : List ℕ) (from count addr value : ℕ) → (addr < from) ⊎ (from + count ≤ addr) → words_at (set memory addr value) from count
    ≡ words_at memory from count
part_apart memory from count addr value (inl before) = ap (take count) (drop-set-lt from memory addr value before)
part_apart memory from count addr value (inr behind) =
    let at : addr ≡ from + (addr - from) = omega (arith, behind) in
    ap (λ a. take count (drop from (set memory a value))) at
    ∙ ap (take count) (drop-set-add from memory (addr - from) value)
    ∙ take-set-le count (drop from memory) (addr - from) value (omega (arith, behind))

take_set : (count : ℕ) (words : List ℕ) (k value : ℕ) → take count (set words k value) ≡ set (take count words) k value
take_set zero words k value = refl
take_set (suc count) [] k value = refl
take_set (suc count) (word ∷ words) zero value = refl
take_set (suc count) (word ∷ words) (suc k) value = ap (λ rest. word ∷ rest) (take_set count words k value)

-- a write in the part
pub part_set : (memory : List ℕ) (from count addr k value : ℕ) → addr ≡ from + k → words_at (set memory addr value) from count
    ≡ set (words_at memory from count) k value
part_set memory from count addr k value at =
    ap (λ a. take count (drop from (set memory a value))) at
    ∙ ap (take count) (drop-set-add from memory k value)
    ∙ take_set count (drop from memory) k value

-- ---- the words of a heap
module _ (sizes : Sizes) (memory : List ℕ) where
  pub lane_word : (lane : ℕ) → lane < 8 → get_or (heap_of sizes memory).lanes lane 0 ≡ get_or memory (lane_at lane) 0
  lane_word lane below = word_in_part memory (lane_at 0) 8 lane below

  pub need_word : (message : ℕ) → 1 ≤ message → message ≤ sizes.messages → need_of (heap_of sizes memory) message ≡ get_or memory (need_at message) 0
  need_word message from to =
      word_in_part memory (need_at 1) sizes.messages (message - 1) (omega (arith, from, to)) ∙ ap (λ at. get_or memory at 0) (omega (arith, from))

  pub gate_word : (segment : ℕ) → segment < sizes.segments → gate_of (heap_of sizes memory) segment ≡ get_or memory (gate_at sizes segment) 0
  gate_word segment below =
      word_in_part memory (gate_at sizes 0) sizes.segments segment below ∙ ap (λ at. get_or memory at 0) (omega arith)

  pub link_word : (segment : ℕ) → segment < sizes.segments → get_or (heap_of sizes memory).links segment 0 ≡ get_or memory (link_at sizes segment) 0
  link_word segment below =
      word_in_part memory (link_at sizes 0) sizes.segments segment below ∙ ap (λ at. get_or memory at 0) (omega arith)

  pub segment_is : (segment : ℕ) → segment < sizes.segments → segment_of (heap_of sizes memory) segment ≡ words_in memory (region_of sizes segment)
  segment_is segment below =
      get_or-map-range_with_len (λ s. words_in memory (region_of sizes s)) 0 sizes.segments segment segment [] below (zero-add segment)

  pub segment_word : (segment offset : ℕ) → segment < sizes.segments → offset < segment_len → get_or (segment_of (heap_of sizes memory) segment) offset 0
      ≡ get_or memory (base_at sizes segment + offset) 0
  segment_word segment offset below inside =
      ap (λ words. get_or words offset 0) (segment_is segment below) ∙ word_in_part memory (base_at sizes segment) segment_len offset inside

  pub segments_many : length (heap_of sizes memory).segments ≡ sizes.segments
  segments_many = length-map-range_with_len (λ s. words_in memory (region_of sizes s)) 0 sizes.segments

  -- ---- where the memory has the words of the sizes
  pub lanes_many : length memory ≡ words_of sizes → length (heap_of sizes memory).lanes ≡ 8
  lanes_many size = length-part memory (lane_at 0) 8 (omega (arith, size))

  pub gates_many : length memory ≡ words_of sizes → length (heap_of sizes memory).gates ≡ sizes.segments
  gates_many size = length-part memory (gate_at sizes 0) sizes.segments (omega (arith, size))

  pub links_many : length memory ≡ words_of sizes → length (heap_of sizes memory).links ≡ sizes.segments
  links_many size = length-part memory (link_at sizes 0) sizes.segments (omega (arith, size))

  pub segment_many : length memory ≡ words_of sizes → (segment : ℕ) → segment < sizes.segments → length (segment_of (heap_of sizes memory) segment)
      ≡ segment_len
  segment_many size segment below =
      ap length (segment_is segment below) ∙ length-part memory (base_at sizes segment) segment_len (omega (arith, size, below))

-- ---- what a write changes
module _ (sizes : Sizes) (memory : List ℕ) (addr value : ℕ) where
  segments_apart : addr < base_at sizes 0 → (heap_of sizes (set memory addr value)).segments ≡ (heap_of sizes memory).segments
  segments_apart below =
      map_agree _ (λ s. words_in memory (region_of sizes s)) 0 sizes.segments (λ s from to.
      part_apart memory (base_at sizes s) segment_len addr value (inl (omega (arith, below))))

  pool_apart : addr ≢ 0 → get_or (set memory addr value) pool_at 0 ≡ get_or memory pool_at 0
  pool_apart other = get_or-set_other memory addr pool_at value 0 (λ same. other (sym same))

  pub heap_with_pool : addr ≡ pool_at → 0 < length memory → heap_of sizes (set memory addr value) ≡ record (heap_of sizes memory) { pool = value }
  heap_with_pool at some =
      same_heap (ap (λ a. get_or (set memory a value) 0 0) at ∙ get_or-set_same memory 0 value 0 some)
      (part_apart memory 1 8 addr value (inl (omega (arith, at))))
      (part_apart memory (need_at 1) sizes.messages addr value (inl (omega (arith, at))))
      (part_apart memory (gate_at sizes 0) sizes.segments addr value (inl (omega (arith, at))))
      (part_apart memory (link_at sizes 0) sizes.segments addr value (inl (omega (arith, at))))
      (segments_apart (omega (arith, at)))

  pub heap_with_lane : (lane : ℕ) → addr ≡ lane_at lane → lane < 8 → heap_of sizes (set memory addr value)
      ≡ record (heap_of sizes memory) { lanes = set (heap_of sizes memory).lanes lane value }
  heap_with_lane lane at below =
      same_heap (pool_apart (λ same. omega (arith, at, same)))
      (part_set memory 1 8 addr lane value at)
      (part_apart memory (need_at 1) sizes.messages addr value (inl (omega (arith, at, below))))
      (part_apart memory (gate_at sizes 0) sizes.segments addr value (inl (omega (arith, at, below))))
      (part_apart memory (link_at sizes 0) sizes.segments addr value (inl (omega (arith, at, below))))
      (segments_apart (omega (arith, at, below)))

  pub heap_with_need : (message : ℕ) → addr ≡ need_at message → 1 ≤ message → message ≤ sizes.messages
      → heap_of sizes (set memory addr value) ≡ record (heap_of sizes memory) { needs = set (heap_of sizes memory).needs (message - 1) value }
  heap_with_need message at from to =
      same_heap (pool_apart (λ same. omega (arith, at, same)))
      (part_apart memory 1 8 addr value (inr (omega (arith, at, from))))
      (part_set memory (need_at 1) sizes.messages addr (message - 1) value (omega (arith, at, from)))
      (part_apart memory (gate_at sizes 0) sizes.segments addr value (inl (omega (arith, at, to))))
      (part_apart memory (link_at sizes 0) sizes.segments addr value (inl (omega (arith, at, to))))
      (segments_apart (omega (arith, at, to)))

  pub heap_with_gate : (segment : ℕ) → addr ≡ gate_at sizes segment → segment < sizes.segments
      → heap_of sizes (set memory addr value) ≡ record (heap_of sizes memory) { gates = set (heap_of sizes memory).gates segment value }
  heap_with_gate segment at below =
      same_heap (pool_apart (λ same. omega (arith, at, same)))
      (part_apart memory 1 8 addr value (inr (omega (arith, at))))
      (part_apart memory (need_at 1) sizes.messages addr value (inr (omega (arith, at))))
      (part_set memory (gate_at sizes 0) sizes.segments addr segment value (omega (arith, at)))
      (part_apart memory (link_at sizes 0) sizes.segments addr value (inl (omega (arith, at, below))))
      (segments_apart (omega (arith, at, below)))

  pub heap_with_link : (segment : ℕ) → addr ≡ link_at sizes segment → segment < sizes.segments
      → heap_of sizes (set memory addr value) ≡ record (heap_of sizes memory) { links = set (heap_of sizes memory).links segment value }
  heap_with_link segment at below =
      same_heap (pool_apart (λ same. omega (arith, at, same)))
      (part_apart memory 1 8 addr value (inr (omega (arith, at))))
      (part_apart memory (need_at 1) sizes.messages addr value (inr (omega (arith, at))))
      (part_apart memory (gate_at sizes 0) sizes.segments addr value (inr (omega (arith, at))))
      (part_set memory (link_at sizes 0) sizes.segments addr segment value (omega (arith, at)))
      (segments_apart (omega (arith, at, below)))

  -- one word of one segment
  segments_with : (segment offset : ℕ) → addr ≡ base_at sizes segment + offset → segment < sizes.segments → offset < segment_len
      → (heap_of sizes (set memory addr value)).segments
      ≡ set (heap_of sizes memory).segments segment (set (segment_of (heap_of sizes memory) segment) offset value)
  segments_with segment offset at below inside =
      let heap = heap_of sizes memory in
      let new = set (segment_of heap segment) offset value in
      let many = segments_many sizes memory in
      ext_get_or [] (heap_of sizes (set memory addr value)).segments (set heap.segments segment new)
      (omega (arith, many, segments_many sizes (set memory addr value), length-set heap.segments segment new)) (λ k in_list.
      let here : k < sizes.segments = omega (arith, in_list, segments_many sizes (set memory addr value)) in
      segment_is sizes (set memory addr value) k here
      ∙ elim (cases_eq k segment) as (λ c. words_in (set memory addr value) (region_of sizes k) ≡ get_or (set heap.segments segment new) k []) [
        | inl same ↦
            subst (λ s. words_in (set memory addr value) (region_of sizes s) ≡ get_or (set heap.segments segment new) s []) (sym same)
            (part_set memory (base_at sizes segment) segment_len addr offset value at
            ∙ ap (λ words. set words offset value) (sym (segment_is sizes memory segment below))
            ∙ sym (get_or-set_same heap.segments segment new [] (omega (arith, below, many))))
        | inr other ↦
            part_apart memory (base_at sizes k) segment_len addr value (one_side k other)
            ∙ sym (segment_is sizes memory k here)
            ∙ sym (get_or-set_other heap.segments segment k new [] other)
      ])
    where
      one_side : (k : ℕ) → (k ≡ segment → ⊥) → (addr < base_at sizes k) ⊎ (base_at sizes k + segment_len ≤ addr)
      one_side k other =
          elim (cases_lt segment k) [
            | inl before ↦ inl (omega (arith, at, before, inside))
            | inr from ↦ inr (omega (arith, at, from, other))
          ]

  pub heap_with_word : (segment offset : ℕ) → addr ≡ base_at sizes segment + offset → segment < sizes.segments → offset < segment_len
      → heap_of sizes (set memory addr value)
      ≡ record (heap_of sizes memory) {
        segments = set (heap_of sizes memory).segments segment
            (set (segment_of (heap_of sizes memory) segment) offset value);
      }
  heap_with_word segment offset at below inside =
      same_heap (pool_apart (λ same. omega (arith, at, same)))
      (part_apart memory 1 8 addr value (inr (omega (arith, at))))
      (part_apart memory (need_at 1) sizes.messages addr value (inr (omega (arith, at))))
      (part_apart memory (gate_at sizes 0) sizes.segments addr value (inr (omega (arith, at))))
      (part_apart memory (link_at sizes 0) sizes.segments addr value (inr (omega (arith, at))))
      (segments_with segment offset at below inside)
