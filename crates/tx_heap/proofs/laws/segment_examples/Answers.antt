-- Each record and each cell in turn.
use Rattle.std.proofs.Common.{ℕ, zero, suc, ◌<◌, refl, arith}
use Rattle.std.specs.List.{All}
use Rattle.std.proofs.lemmas.List.Elements.{All-from_recursion, All-nil}
use Rattle.tx_heap.specs.Segment.{record_at, bucket, records_of, pieces_in, LiesWithin, ArePiecesApart, RecordFalls, CellFalls, IsOfBucket, IsOfLane, HaveOtherKeys}
use Rattle.tx_heap.specs.Examples.{small, bare_record, with_keys, a}
use Rattle.tx_heap.proofs.ExamplesFacts.{zeros_in, two_keys_in_form, two_keys_have_cells}
use Rattle.tx_heap.proofs.laws.segment_examples.Goals as goal

pub returns-clause-in_form : goal.returns-clause-in_form
returns-clause-in_form c = (two_keys_in_form, two_keys_have_cells)

pub returns-clause-one_key_twice : goal.returns-clause-one_key_twice
returns-clause-one_key_twice c form =
    form.one_each.0 0 (record_at (with_keys 28 a a) 10) (omega arith) refl

-- ---- a record without a cell
bare_buckets : (number : ℕ) → number < 2 → All (IsOfBucket small number) (bucket bare_record number)
bare_buckets zero below = All-nil (IsOfBucket small 0)
bare_buckets (suc zero) below = All-from_recursion (IsOfBucket small 1) (bucket bare_record 1) (refl, tt)
bare_buckets (suc (suc number)) below = absurd (omega (arith, below))

pub returns-clause-bare_record : goal.returns-clause-bare_record
returns-clause-bare_record c =
    let all = records_of small bare_record in (
      record {
        begins = omega arith;
        ends = omega arith;
        unused = zeros_in bare_record 3 5 refl;
        keys = refl;
        cells = refl;
        filled = refl;
        within = All-from_recursion (LiesWithin 10 16) (pieces_in all) ((omega arith, omega arith), tt);
        apart = (All-nil (ArePiecesApart (record { from = 10; len = 6 })), tt);
        records_fall = All-from_recursion RecordFalls all (omega arith, tt);
        cells_fall = All-nil CellFalls;
        buckets = bare_buckets;
        lanes = All-from_recursion (IsOfLane small 0) all (refl, tt);
        one_each = (All-nil (HaveOtherKeys (record_at bare_record 10)), tt);
      },
      λ have. have 0 (record_at bare_record 10) (omega arith) refl,
    )
