-- What the worked examples share: zeros among words, and the segment of two keys.
use Rattle.std.proofs.Common.{◌≡◌, ℕ, zero, suc, ◌+◌, ◌-◌, ◌<◌, ◌≤◌, ◌==◌, true, List, [], ◌∷◌, get_or, refl, sym, ◌∙◌, ap, arith, inl, inr}
use Rattle.std.specs.List.{All}
use Rattle.std.proofs.lemmas.List.Elements.{All-from_recursion, All-nil}
use Rattle.mail_words.specs.Key.{KeyNumbers}
use Rattle.tx_heap.specs.Pairwise.{Pairwise}
use Rattle.tx_heap.specs.Segment.{record_at, bucket, records_of, cells_in, pieces_in, LiesWithin, ArePiecesApart, RecordFalls, CellFalls, IsOfBucket, IsOfLane, HaveOtherKeys, IsInForm, HasCell, HaveCells}
use Rattle.tx_heap.specs.Examples.{small, two_keys}
use Rattle.std.proofs.lemmas.Bool.{agree_below, agree_below_at, eqb-true}

pub zeros_in : (words : List ℕ) (from count : ℕ) → agree_below (λ k. get_or words (from + k) 0 == 0) (λ k. true) count ≡ true → (at : ℕ) → from ≤ at
    → at < from + count → get_or words at 0 ≡ 0
zeros_in words from count tested at after below =
    let back : from + (at - from) ≡ at = omega arith in
    ap (λ k. get_or words k 0) (sym back)
    ∙ eqb-true (get_or words (from + (at - from)) 0) 0 (agree_below_at (λ k. get_or words (from + k) 0 == 0) (λ k. true) count (at - from) tested
    (omega (arith, after, below)))

-- ---- two records, with a cell and with two
pieces_apart : Pairwise ArePiecesApart (pieces_in (records_of small two_keys))
pieces_apart =
    let from_18 = All-from_recursion (ArePiecesApart (record { from = 18; len = 6 }))
    (record { from = 24; len = 2 } ∷ record { from = 10; len = 6 } ∷ record { from = 26; len = 2 } ∷ record { from = 16; len = 2 } ∷ [])
    (inl (omega arith), (inr (omega arith), (inl (omega arith), (inr (omega arith), tt)))) in
    let from_24 = All-from_recursion (ArePiecesApart (record { from = 24; len = 2 }))
    (record { from = 10; len = 6 } ∷ record { from = 26; len = 2 } ∷ record { from = 16; len = 2 } ∷ [])
    (inr (omega arith), (inl (omega arith), (inr (omega arith), tt))) in
    let from_10 = All-from_recursion (ArePiecesApart (record { from = 10; len = 6 })) (record { from = 26; len = 2 } ∷ record { from = 16; len = 2 } ∷ [])
    (inl (omega arith), (inl (omega arith), tt)) in
    let from_26 = All-from_recursion (ArePiecesApart (record { from = 26; len = 2 })) (record { from = 16; len = 2 } ∷ []) (inr (omega arith), tt) in
    (from_18, (from_24, (from_10, (from_26, (All-nil (ArePiecesApart (record { from = 16; len = 2 })), tt)))))

of_buckets : (number : ℕ) → number < 2 → All (IsOfBucket small number) (bucket two_keys number)
of_buckets zero below = All-nil (IsOfBucket small 0)
of_buckets (suc zero) below = All-from_recursion (IsOfBucket small 1) (bucket two_keys 1) (refl, (refl, tt))
of_buckets (suc (suc number)) below = absurd (omega (arith, below))

pub two_keys_in_form : IsInForm small 0 two_keys
two_keys_in_form =
    let all = records_of small two_keys in
    record {
      begins = omega arith;
      ends = omega arith;
      unused = zeros_in two_keys 3 5 refl;
      keys = refl;
      cells = refl;
      filled = refl;
      within = All-from_recursion (LiesWithin 10 28) (pieces_in all) (
        (omega arith, omega arith),
        (
          (omega arith, omega arith),
          ((omega arith, omega arith), ((omega arith, omega arith), ((omega arith, omega arith), tt))),
        ),
      );
      apart = pieces_apart;
      records_fall = All-from_recursion RecordFalls all (omega arith, (omega arith, tt));
      cells_fall = All-from_recursion CellFalls (cells_in all) (omega arith, (omega arith, (omega arith, tt)));
      buckets = of_buckets;
      lanes = All-from_recursion (IsOfLane small 0) all (refl, (refl, tt));
      one_each = (
        All-from_recursion (HaveOtherKeys (record_at two_keys 18)) (record_at two_keys 10 ∷ [])
            (λ same. omega (arith, ap (λ (key : KeyNumbers). key.k0) same), tt),
        (All-nil (HaveOtherKeys (record_at two_keys 10)), tt),
      );
    }

pub two_keys_have_cells : HaveCells small two_keys
two_keys_have_cells = All-from_recursion HasCell (records_of small two_keys) (λ none. cc, (λ none. cc, tt))
