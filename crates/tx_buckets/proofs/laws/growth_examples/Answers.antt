-- An empty segment, with a record, and with its cell.
use Rattle.std.proofs.Common.{◌≡◌, ◌≢◌, ℕ, zero, suc, ◌<◌, ◌≤◌, List, [], ◌∷◌, map, get_or, refl, ap, arith}
use Rattle.tx_heap.specs.Segment.{KeyRecord, Cell, bucket}
use Rattle.tx_heap.specs.Examples.{small, a, c, bare_record}
use Rattle.tx_buckets.specs.Examples.{empty, one_row}
use Rattle.tx_buckets.specs.Growth.{WithRecord, celled, WithCell}
use Rattle.tx_buckets.proofs.laws.growth_examples.Goals as goal

same_unused : (old new : List ℕ) → get_or new 3 0 ≡ get_or old 3 0 → get_or new 4 0 ≡ get_or old 4 0 → get_or new 5 0 ≡ get_or old 5 0 → get_or new 6 0
    ≡ get_or old 6 0 → get_or new 7 0 ≡ get_or old 7 0
    → (at : ℕ) → 3 ≤ at → at < 8 → get_or new at 0 ≡ get_or old at 0
same_unused old new p3 p4 p5 p6 p7 zero from below = absurd (omega (arith, from))
same_unused old new p3 p4 p5 p6 p7 (suc zero) from below = absurd (omega (arith, from))
same_unused old new p3 p4 p5 p6 p7 (suc (suc zero)) from below = absurd (omega (arith, from))
same_unused old new p3 p4 p5 p6 p7 (suc (suc (suc zero))) from below = p3
same_unused old new p3 p4 p5 p6 p7 (suc (suc (suc (suc zero)))) from below = p4
same_unused old new p3 p4 p5 p6 p7 (suc (suc (suc (suc (suc zero))))) from below = p5
same_unused old new p3 p4 p5 p6 p7 (suc (suc (suc (suc (suc (suc zero)))))) from below = p6
same_unused old new p3 p4 p5 p6 p7 (suc (suc (suc (suc (suc (suc (suc zero))))))) from below = p7
same_unused old new p3 p4 p5 p6 p7 (suc (suc (suc (suc (suc (suc (suc (suc at)))))))) from below = absurd (omega (arith, below))

other_bucket : (number : ℕ) → number < 2 → number ≢ 1 → bucket bare_record number ≡ bucket empty number
other_bucket zero below other = refl
other_bucket (suc zero) below other = absurd (other refl)
other_bucket (suc (suc number)) below other = absurd (omega (arith, below))

with_record : WithRecord small a empty bare_record
with_record = record {
  many = refl;
  free = refl;
  keys = refl;
  cells = refl;
  unused = same_unused empty bare_record refl refl refl refl refl;
  here = refl;
  others = other_bucket;
}

-- the new record would have the other key
not_c : WithRecord small c empty bare_record → ⊥
not_c grown = omega (arith, ap (λ (rs : List KeyRecord). first_number rs) grown.here)
  where
    first_number : List KeyRecord → ℕ
    first_number [] = 0
    first_number (r ∷ rs) = r.key.k0

each_bucket : (number : ℕ) → number < 2 → bucket one_row number ≡ map (celled bare_record 10 1) (bucket bare_record number)
each_bucket zero below = refl
each_bucket (suc zero) below = refl
each_bucket (suc (suc number)) below = absurd (omega (arith, below))

with_cell : WithCell small 10 1 bare_record one_row
with_cell = record {
  many = refl;
  free = refl;
  keys = refl;
  cells = refl;
  unused = same_unused bare_record one_row refl refl refl refl refl;
  buckets = each_bucket;
}

-- the new cell would have the other message
not_2 : WithCell small 10 2 bare_record one_row → ⊥
not_2 grown = omega (arith, ap (λ (rs : List KeyRecord). first_message rs) (grown.buckets 1 (omega arith)))
  where
    of_cells : List Cell → ℕ
    of_cells [] = 0
    of_cells (c ∷ cells) = c.message

    first_message : List KeyRecord → ℕ
    first_message [] = 0
    first_message (r ∷ rs) = of_cells r.cells

pub returns-clause-with_record : goal.returns-clause-with_record
returns-clause-with_record c = (with_record, not_c)

pub returns-clause-with_cell : goal.returns-clause-with_cell
returns-clause-with_cell c = (with_cell, not_2)

pub returns-clause-inserted : goal.returns-clause-inserted
returns-clause-inserted c = record { at_free = refl; only = refl; words = with_record }

pub returns-clause-cell_added : goal.returns-clause-cell_added
returns-clause-cell_added c = record { only = refl; words = with_cell }
