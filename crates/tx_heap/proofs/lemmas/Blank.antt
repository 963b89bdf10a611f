-- A segment of zeros behind its free offset has no record, and is in form.
use Rattle.std.proofs.Common.{◌≡◌, ℕ, zero, suc, ◌+◌, ◌-◌, ◌<◌, ◌≤◌, ◌==◌, List, [], ◌∷◌, ◌++◌, length, map, get_or, replicate, refl, sym, ◌∙◌, ap, subst, arith}
use Rattle.std.specs.List.{All, flat_map, range_with_len}
use Rattle.std.proofs.lemmas.Bool.{cond-true, eq-eqb}
use Rattle.std.proofs.lemmas.List.Elements.{All-nil, All-replicate, All-cons}
use Rattle.tx_heap.specs.Layout.{Layout}
use Rattle.tx_heap.specs.Pairwise.{Pairwise}
use Rattle.tx_heap.specs.Segment.{chain, free_of, head_at, first_at, next_at, bucket, record_at, records_of, cells_in, pieces_in, LiesWithin, ArePiecesApart, RecordFalls, CellFalls, IsOfBucket, IsOfLane, HaveOtherKeys, HasCell, IsInForm, HaveCells, open_rows, rows_of_record}
use Rattle.tx_heap.specs.Opening.{blank_segment}
use Rattle.tx_heap.specs.OpeningLaw.{length-blank}

-- ---- lists without elements
pub none_all : {X : Type 0} (P : X → Type 0) (xs : List X) → xs ≡ [] → All P xs
none_all P xs none = subst (All P) (sym none) (All-nil P)

pub none_pairwise : {X : Type 0} (R : X → X → Type 0) (xs : List X) → xs ≡ [] → Pairwise R xs
none_pairwise R xs none = subst (Pairwise R) (sym none) tt

-- a flat map of nothing at each number
pub flat_map_none : {X : Type 0} (f : ℕ → List X) (first count : ℕ) → ((k : ℕ) → first ≤ k → k < first + count → f k ≡ [])
    → flat_map f (range_with_len first count) ≡ []
flat_map_none f first zero none = refl
flat_map_none f first (suc count) none =
    ap (λ xs. xs ++ flat_map f (range_with_len (first + 1) count)) (none first (omega arith) (omega arith))
    ∙ flat_map_none f (first + 1) count (λ k from below. none k (omega (arith, from)) (omega (arith, below)))

-- ---- chains
pub chain_none : (words : List ℕ) (link most at : ℕ) → at ≡ 0 → chain words link most at ≡ []
chain_none words link zero at none = refl
chain_none words link (suc most) at none =
    cond-true (at == 0) [] (at ∷ chain words link most (get_or words (at + link) 0)) (eq-eqb at 0 none)

-- ---- blank segments
pub zeros_at : (count at : ℕ) → get_or {A = ℕ} (replicate count 0) at 0 ≡ 0
zeros_at zero at = refl
zeros_at (suc count) zero = refl
zeros_at (suc count) (suc at) = zeros_at count at

pub blank_word : (free len at : ℕ) → 1 ≤ at → get_or (blank_segment free len) at 0 ≡ 0
unfolding blank_segment
blank_word free len zero some = absurd (omega (arith, some))
blank_word free len (suc at) some = zeros_at (len - 1) at

pub blank_free : (free len : ℕ) → free_of (blank_segment free len) ≡ free
unfolding blank_segment
blank_free free len = refl

-- with no free offset either, all words are 0
pub blank_all : (len : ℕ) → All (λ word. word ≡ 0) (blank_segment 0 len)
unfolding blank_segment
blank_all len = All-cons (λ (word : ℕ). word ≡ 0) 0 (replicate (len - 1) 0) refl (All-replicate (λ (word : ℕ). word ≡ 0) (len - 1) 0 refl)

module _ (layout : Layout) (len : ℕ) where
  abbrev words : List ℕ
  words = blank_segment (first_at layout) len

  bucket_none : (number : ℕ) → bucket words number ≡ []
  bucket_none number =
      ap (map (record_at words)) (chain_none words next_at (length words) (get_or words (head_at number) 0)
      (blank_word (first_at layout) len (head_at number) (omega arith)))

  pub blank_records : records_of layout words ≡ []
  blank_records = flat_map_none (bucket words) 0 layout.buckets (λ number from below. bucket_none number)

  pub blank_rows : open_rows layout words ≡ []
  blank_rows = ap (flat_map rows_of_record) blank_records

  pub blank_cells : HaveCells layout words
  blank_cells = none_all HasCell (records_of layout words) blank_records

  pub blank_in_form : (lane : ℕ) → first_at layout ≤ len → IsInForm layout lane words
  blank_in_form lane long =
      let free = blank_free (first_at layout) len in
      let keys = blank_word (first_at layout) len 1 (omega arith) in
      let cells = blank_word (first_at layout) len 2 (omega arith) in
      record {
        begins = omega (arith, free);
        ends = omega (arith, free, length-blank (first_at layout) len (omega (arith, long)), long);
        unused = λ at from below. blank_word (first_at layout) len at (omega (arith, from));
        keys = keys ∙ sym (ap length blank_records);
        cells = cells ∙ sym (ap (λ records. length (cells_in records)) blank_records);
        filled = omega (arith, free, keys, cells);
        within = none_all (LiesWithin (first_at layout) (free_of words)) (pieces_in (records_of layout words)) (ap pieces_in blank_records);
        apart = none_pairwise ArePiecesApart (pieces_in (records_of layout words)) (ap pieces_in blank_records);
        records_fall = none_all RecordFalls (records_of layout words) blank_records;
        cells_fall = none_all CellFalls (cells_in (records_of layout words)) (ap cells_in blank_records);
        buckets = λ number below. none_all (IsOfBucket layout number) (bucket words number) (bucket_none number);
        lanes = none_all (IsOfLane layout lane) (records_of layout words) blank_records;
        one_each = none_pairwise HaveOtherKeys (records_of layout words) blank_records;
      }
