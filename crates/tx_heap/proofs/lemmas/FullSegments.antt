-- A full segment has at least 3,952 rows.
use Rattle.std.proofs.Common.{◌≡◌, ◌≢◌, ℕ, ◌≤◌, List, [], ◌∷◌, length, refl, arith}
use Rattle.std.specs.List.{All, flat_map}
use Rattle.std.proofs.lemmas.List.{length-append, length-map}
use Rattle.std.proofs.lemmas.List.Elements.{All-head, All-tail}
use Rattle.tx_heap.specs.Layout.{mail_layout}
use Rattle.tx_heap.specs.Segment.{Cell, KeyRecord, Row, records_of, cells_in, rows_of_record, open_rows, IsInForm, HasCell, HaveCells}
use Rattle.tx_heap.specs.Fresh.{IsFull}

-- there are as many rows as cells
pub rows_many : (records : List KeyRecord) → length (flat_map rows_of_record records) ≡ length (cells_in records)
rows_many [] = refl
rows_many (r ∷ records) =
    let here = length-map {B = Row} r.cells (λ (c : Cell). (r.key, c.message)) in
    let rest = rows_many records in
    omega (arith, length-append (rows_of_record r) (flat_map rows_of_record records), length-append r.cells (cells_in records), here, rest)

-- where each record has a cell, there are no more records than cells
pub records_few : (records : List KeyRecord) → All HasCell records → length records ≤ length (cells_in records)
records_few [] have = omega arith
records_few (r ∷ records) have =
    let rest = records_few records (All-tail HasCell r records have) in
    let some : 1 ≤ length r.cells = some_of r.cells (All-head HasCell r records have) in
    omega (arith, length-append r.cells (cells_in records), rest, some)
  where
    some_of : (cells : List Cell) → cells ≢ [] → 1 ≤ length cells
    some_of [] none = absurd (none refl)
    some_of (c ∷ cells) some = omega arith

pub full_rows : (lane : ℕ) (words : List ℕ) → IsInForm mail_layout lane words → HaveCells mail_layout words → IsFull words
    → 3952 ≤ length (open_rows mail_layout words)
full_rows lane words form have full =
    let records = records_of mail_layout words in
    omega (arith, rows_many records, records_few records have, form.keys, form.cells, form.filled, full)
