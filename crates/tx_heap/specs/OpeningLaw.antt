-- The opening memory by what its words are.
use Rattle.std.specs.Prelude.{◌≡◌, ℕ, zero, suc, ◌+◌, ◌-◌, ◌*◌, ◌<◌, ◌≤◌, List, ◌∷◌, ◌++◌, length, map, take, drop, replicate, refl}
use Rattle.std.specs.List.{flat_map, range_with_len}
use Rattle.std.proofs.Common.{sym, ap, ◌∙◌, zero-add, arith}
use Rattle.std.proofs.lemmas.List.{length-append, length-replicate, length-map, drop-drop, drop_at, take_at}
use Rattle.mail_words.specs.Key.{KeyNumbers}
use Rattle.tx_model.specs.Memory.{words_in}
use Rattle.tx_heap.specs.Layout.{words_of, base_at, region_of, segment_len}
use Rattle.tx_heap.specs.Heap.{Heap, heap_of, words_at}
use Rattle.tx_heap.specs.Opening.{blank_segment, opening_segment, opening_lanes, opening_needs, opening_gates, opening_links, opening_segments, opening_with}

-- the opening by its parts
abbrev pub opening_heap : List (List KeyNumbers) → ℕ → Heap
opening_heap lists segments = record {
  pool = 8;
  lanes = range_with_len 1 8;
  needs = opening_needs lists;
  gates = opening_gates segments;
  links = opening_links segments;
  segments = map opening_segment (range_with_len 0 segments);
}

-- ---- parts of a list
drop_behind : (xs ys : List ℕ) (from n : ℕ) → from ≡ length xs + n → drop from (xs ++ ys) ≡ drop n ys
drop_behind xs ys from n e =
    ap (λ at. drop at (xs ++ ys)) e ∙ sym (drop-drop n (length xs) (xs ++ ys)) ∙ ap (drop n) (drop_at xs ys (length xs) refl)

-- ---- segments
pub length-blank : (free len : ℕ) → 0 < len → length (blank_segment free len) ≡ len
unfolding blank_segment
length-blank free len some = omega (arith, length-replicate {A = ℕ} (len - 1) 0)

module _ (f : ℕ → List ℕ) (len : ℕ) (each : (k : ℕ) → length (f k) ≡ len) where
  -- one of several lists of one length
  block : (first count k : ℕ) → k < count → take len (drop (len * k) (flat_map f (range_with_len first count))) ≡ f (first + k)
  block first zero k below = absurd (omega (arith, below))
  block first (suc count) zero below =
      let rest = flat_map f (range_with_len (first + 1) count) in
      let none : len * 0 ≡ 0 = omega arith in
      let here : first ≡ first + 0 = omega arith in
      ap (λ at. take len (drop at (f first ++ rest))) none ∙ take_at (f first) rest len (each first) ∙ ap f here
  block first (suc count) (suc k) below =
      let rest = flat_map f (range_with_len (first + 1) count) in
      let next : first + 1 + k ≡ first + suc k = omega arith in
      let on : len * suc k ≡ length (f first) + len * k = omega (arith, each first) in
      ap (take len) (drop_behind (f first) rest (len * suc k) (len * k) on) ∙ block (first + 1) count k (omega (arith, below)) ∙ ap f next

  length-blocks : (first count : ℕ) → length (flat_map f (range_with_len first count)) ≡ len * count
  length-blocks first zero = omega arith
  length-blocks first (suc count) =
      let rest = length-blocks (first + 1) count in
      omega (arith, length-append (f first) (flat_map f (range_with_len (first + 1) count)), each first, rest)

pub map_agree : {X : Type 0} (f g : ℕ → X) (first count : ℕ) → ((k : ℕ) → first ≤ k → k < first + count → f k ≡ g k) → map f (range_with_len first count)
    ≡ map g (range_with_len first count)
map_agree f g first zero same = refl
map_agree f g first (suc count) same =
    ap (λ x. x ∷ map f (range_with_len (first + 1) count)) (same first (omega arith) (omega arith))
    ∙ ap (λ xs. g first ∷ xs) (map_agree f g (first + 1) count (λ k from below. same k (omega (arith, from)) (omega (arith, below))))

pub same_heap : {pool pool' : ℕ} {lanes lanes' needs needs' gates gates' links links' : List ℕ} {segments segments' : List (List ℕ)}
    → pool ≡ pool' → lanes ≡ lanes' → needs ≡ needs' → gates ≡ gates' → links ≡ links' → segments ≡ segments'
    → ◌≡◌ {A = Heap} (record { pool = pool; lanes = lanes; needs = needs; gates = gates; links = links; segments = segments })
    (record { pool = pool'; lanes = lanes'; needs = needs'; gates = gates'; links = links'; segments = segments' })
same_heap p l n g k s = cc

-- ---- the opening
module _ (lists : List (List KeyNumbers)) (count : ℕ) (lanes : 8 ≤ count) where
  segment_size : (k : ℕ) → length (opening_segment k) ≡ segment_len
  segment_size k = length-blank _ segment_len (omega arith)

  needs_size : length (opening_needs lists) ≡ length lists
  needs_size = length-map lists length

  gates_size : length (opening_gates count) ≡ count
  gates_size =
      let other_gates = length-replicate {A = ℕ} (count - 8) 0 in
      omega (arith, length-append {A = ℕ} (replicate 8 1) (replicate (count - 8) 0), other_gates)

  links_size : length (opening_links count) ≡ count
  links_size = length-replicate {A = ℕ} count 0

  -- the words from each part on
  from_needs : (from n : ℕ) → from ≡ 16 + n → drop from (opening_with lists count)
      ≡ drop n (opening_needs lists ++ (opening_gates count ++ (opening_links count ++ opening_segments count)))
  from_needs from n e = drop_behind opening_lanes _ from n e

  from_gates : (from n : ℕ) → from ≡ 16 + length lists + n → drop from (opening_with lists count)
      ≡ drop n (opening_gates count ++ (opening_links count ++ opening_segments count))
  from_gates from n e =
      from_needs from (length lists + n) (omega (arith, e)) ∙ drop_behind (opening_needs lists) _ (length lists + n) n (omega (arith, needs_size))

  from_links : (from n : ℕ) → from ≡ 16 + length lists + count + n → drop from (opening_with lists count)
      ≡ drop n (opening_links count ++ opening_segments count)
  from_links from n e =
      from_gates from (count + n) (omega (arith, e)) ∙ drop_behind (opening_gates count) _ (count + n) n (omega (arith, gates_size))

  from_segments : (from n : ℕ) → from ≡ 16 + length lists + 2 * count + n → drop from (opening_with lists count) ≡ drop n (opening_segments count)
  from_segments from n e =
      from_links from (count + n) (omega (arith, e)) ∙ drop_behind (opening_links count) _ (count + n) n (omega (arith, links_size))

  -- each part
  needs_are : words_at (opening_with lists count) 16 (length lists) ≡ opening_needs lists
  needs_are =
      ap (take (length lists)) (from_needs 16 0 refl) ∙ take_at (opening_needs lists) _ (length lists) needs_size

  gates_are : words_at (opening_with lists count) (16 + length lists + 0) count ≡ opening_gates count
  gates_are =
      ap (take count) (from_gates (16 + length lists + 0) 0 refl) ∙ take_at (opening_gates count) _ count gates_size

  links_are : words_at (opening_with lists count) (16 + length lists + count + 0) count ≡ opening_links count
  links_are =
      ap (take count) (from_links (16 + length lists + count + 0) 0 refl) ∙ take_at (opening_links count) _ count links_size

  segment_is : (k : ℕ) → k < count → words_in (opening_with lists count) (region_of (record { messages = length lists; segments = count }) k)
      ≡ opening_segment k
  segment_is k below =
      let from = base_at (record { messages = length lists; segments = count }) k in
      ap (take segment_len) (from_segments from (segment_len * k) (omega arith)) ∙ block opening_segment segment_len segment_size 0 count k below
      ∙ ap opening_segment (zero-add k)

  segments_are : map (λ k. words_in (opening_with lists count) (region_of (record { messages = length lists; segments = count }) k)) (range_with_len 0 count)
      ≡ map opening_segment (range_with_len 0 count)
  segments_are = map_agree _ opening_segment 0 count (λ k from below. segment_is k (omega (arith, below)))

  -- the opening has the words of its sizes, and is what its parts are
  pub length-opening : length (opening_with lists count) ≡ words_of (record { messages = length lists; segments = count })
  length-opening =
      let segments = length-blocks opening_segment segment_len segment_size 0 count in
      let with_links = length-append (opening_links count) (opening_segments count) in
      let with_gates = length-append (opening_gates count) (opening_links count ++ opening_segments count) in
      let with_needs = length-append (opening_needs lists) (opening_gates count ++ (opening_links count ++ opening_segments count)) in
      omega (arith, segments, with_links, with_gates, with_needs, needs_size, gates_size, links_size)

  pub opening_parts : heap_of (record { messages = length lists; segments = count }) (opening_with lists count) ≡ opening_heap lists count
  opening_parts = same_heap refl refl needs_are gates_are links_are segments_are
