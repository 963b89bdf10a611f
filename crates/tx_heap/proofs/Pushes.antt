-- What a push adds: one more region, one more segment, the words of a segment.
use Rattle.std.proofs.Common.{◌≡◌, ℕ, zero, suc, ◌+◌, ◌-◌, List, [], ◌∷◌, ◌++◌, replicate, map, sym, ◌∙◌, ap, add-one, arith}
use Rattle.std.specs.List.{flat_map, range_with_len}
use Rattle.std.proofs.lemmas.List.{append-nil, append_assoc}
use Rattle.std.proofs.lemmas.List.FromFn.{map-range_with_len_more}
use Rattle.tx_model.specs.declared.gate.Region.{Region}
use Rattle.tx_heap.specs.Layout.{Sizes, region_of}
use Rattle.tx_heap.specs.Opening.{blank_segment}

pub pushed_region : (sizes : Sizes) (count : ℕ) (before after : List Region) (region : Region) → after ≡ before ++ region ∷ [] → before
    ≡ map (region_of sizes) (range_with_len 0 count) → region ≡ region_of sizes count
    → after ≡ map (region_of sizes) (range_with_len 0 (count + 1))
pushed_region sizes count before after region pushed are is =
    pushed
    ∙ ap (λ (regions : List Region). regions ++ region ∷ []) are
    ∙ ap (λ (r : Region). map (region_of sizes) (range_with_len 0 count) ++ r ∷ []) is
    ∙ sym (map-range_with_len_more (region_of sizes) 0 count count (omega arith))

flat_map_next : {X : Type 0} (f : ℕ → List X) (first count last : ℕ) → first + count ≡ last → flat_map f (range_with_len first (suc count))
    ≡ flat_map f (range_with_len first count) ++ f last
flat_map_next f first zero last e = append-nil (f first) ∙ ap f (omega (arith, e))
flat_map_next f first (suc count) last e =
    ap (λ rest. f first ++ rest) (flat_map_next f (first + 1) count last (omega (arith, e)))
    ∙ sym (append_assoc (f first) (flat_map f (range_with_len (first + 1) count)) (f last))

pub flat_map_range_more : {X : Type 0} (f : ℕ → List X) (count : ℕ) → flat_map f (range_with_len 0 (count + 1)) ≡ flat_map f (range_with_len 0 count) ++ f count
flat_map_range_more f count =
    ap (λ n. flat_map f (range_with_len 0 n)) (add-one count) ∙ flat_map_next f 0 count count (omega arith)

pub blank_pushed : (words : List ℕ) (free len : ℕ) → (words ++ free ∷ []) ++ replicate (len - 1) 0 ≡ words ++ blank_segment free len
unfolding blank_segment
blank_pushed words free len = append_assoc words (free ∷ []) (replicate (len - 1) 0)
