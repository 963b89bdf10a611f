-- An open segment as a list of its own words: key records in buckets, and the cells of each record.
-- Word 0 is the first free offset, words 1 and 2 count the records and the cells, words 3 to 7 are 0, then comes the
-- newest record of each bucket, then records and cells up to the free offset. An offset of 0 means none.
use Rattle.std.specs.Prelude.{◌≡◌, ◌≢◌, ◌⊎◌, ℕ, zero, suc, ◌+◌, ◌*◌, ◌<◌, ◌≤◌, ◌==◌, List, [], ◌∷◌, length, map, slice_index, if◌then◌else◌}
use Rattle.std.specs.List.{All, flat_map, range_with_len}
use Rattle.mail_words.specs.Key.{KeyNumbers, numbers}
use Rattle.tx_heap.specs.Layout.{Layout}
use Rattle.tx_heap.specs.Pairwise.{Pairwise}

abbrev pub free_of : List ℕ → ℕ
free_of words = slice_index words 0

abbrev pub keys_of : List ℕ → ℕ
keys_of words = slice_index words 1

abbrev pub cells_of : List ℕ → ℕ
cells_of words = slice_index words 2

-- where the head of a bucket is, and where records and cells begin
abbrev pub head_at : ℕ → ℕ
head_at bucket = 8 + bucket

abbrev pub first_at : Layout → ℕ
first_at layout = head_at layout.buckets

-- ---- what the words say
-- the offsets from one on, each the word at `link` of the one before it: at most `most` of them
abbrev pub chain : List ℕ → ℕ → ℕ → ℕ → List ℕ
chain words link zero at = []
chain words link (suc most) at = if at == 0 then [] else at ∷ chain words link most (slice_index words (at + link))

-- a cell has two words: the message, and the next cell of the record
pub record Cell : Type 0 where
  pub at : ℕ
  pub message : ℕ
  pub next : ℕ

abbrev pub cell_at : List ℕ → ℕ → Cell
cell_at words at = record { at = at; message = slice_index words at; next = slice_index words (at + 1) }

-- a record has six words: the four numbers of the key, the next record of the bucket, and the newest cell
pub record KeyRecord : Type 0 where
  pub at : ℕ
  pub key : KeyNumbers
  pub next : ℕ
  pub cells : List Cell

abbrev pub key_at : List ℕ → ℕ → KeyNumbers
key_at words at =
    numbers (slice_index words at) (slice_index words (at + 1)) (slice_index words (at + 2)) (slice_index words (at + 3))

abbrev pub next_at : ℕ
next_at = 4

abbrev pub newest_at : ℕ
newest_at = 5

-- the cells of a record, the newest first
abbrev pub cells_from : List ℕ → ℕ → List Cell
cells_from words newest = map (cell_at words) (chain words 1 (length words) newest)

abbrev pub record_at : List ℕ → ℕ → KeyRecord
record_at words at =
    record { at = at; key = key_at words at; next = slice_index words (at + next_at); cells = cells_from words (slice_index words (at + newest_at)) }

-- the records of a bucket, the newest first
abbrev pub bucket : List ℕ → ℕ → List KeyRecord
bucket words number = map (record_at words) (chain words next_at (length words) (slice_index words (head_at number)))

-- all records, by buckets
abbrev pub records_of : Layout → List ℕ → List KeyRecord
records_of layout words = flat_map (bucket words) (range_with_len 0 layout.buckets)

abbrev pub cells_in : List KeyRecord → List Cell
cells_in records = flat_map (λ (r : KeyRecord). r.cells) records

-- ---- rows
-- a key, and a message that has its word
abbrev pub Row : Type 0
Row = KeyNumbers × ℕ

abbrev pub rows_of_record : KeyRecord → List Row
rows_of_record r = map (λ (c : Cell). (r.key, c.message)) r.cells

-- the rows of an open segment
abbrev pub open_rows : Layout → List ℕ → List Row
open_rows layout words = flat_map rows_of_record (records_of layout words)

-- ---- the form
-- some words in a row
pub record Piece : Type 0 where
  pub from : ℕ
  pub len : ℕ

abbrev pub pieces_of_record : KeyRecord → List Piece
pieces_of_record r =
    record { from = r.at; len = 6 } ∷ map (λ (c : Cell). record { from = c.at; len = 2 }) r.cells

abbrev pub pieces_in : List KeyRecord → List Piece
pieces_in records = flat_map pieces_of_record records

abbrev pub LiesWithin : ℕ → ℕ → Piece → Type 0
LiesWithin from to piece = (from ≤ piece.from) × (piece.from + piece.len ≤ to)

abbrev pub ArePiecesApart : Piece → Piece → Type 0
ArePiecesApart piece other = (piece.from + piece.len ≤ other.from) ⊎ (other.from + other.len ≤ piece.from)

-- the links of a chain fall
abbrev pub RecordFalls : KeyRecord → Type 0
RecordFalls r = r.next < r.at

abbrev pub CellFalls : Cell → Type 0
CellFalls c = c.next < c.at

abbrev pub IsOfBucket : Layout → ℕ → KeyRecord → Type 0
IsOfBucket layout number r = layout.bucket_of r.key ≡ number

abbrev pub IsOfLane : Layout → ℕ → KeyRecord → Type 0
IsOfLane layout lane r = layout.lane_of r.key ≡ lane

abbrev pub HaveOtherKeys : KeyRecord → KeyRecord → Type 0
HaveOtherKeys r other = r.key ≢ other.key

-- the words are an open segment of the lane, in which a record may have no cell yet
pub record IsInForm (layout : Layout) (lane : ℕ) (words : List ℕ) : Type 0 where
  pub begins : first_at layout ≤ free_of words
  pub ends : free_of words ≤ length words
  pub unused : (at : ℕ) → 3 ≤ at → at < 8 → slice_index words at ≡ 0
  pub keys : keys_of words ≡ length (records_of layout words)
  pub cells : cells_of words ≡ length (cells_in (records_of layout words))
  pub filled : free_of words ≡ first_at layout + 6 * keys_of words + 2 * cells_of words
  pub within : All (LiesWithin (first_at layout) (free_of words)) (pieces_in (records_of layout words))
  pub apart : Pairwise ArePiecesApart (pieces_in (records_of layout words))
  pub records_fall : All RecordFalls (records_of layout words)
  pub cells_fall : All CellFalls (cells_in (records_of layout words))
  pub buckets : (number : ℕ) → number < layout.buckets → All (IsOfBucket layout number) (bucket words number)
  pub lanes : All (IsOfLane layout lane) (records_of layout words)
  pub one_each : Pairwise HaveOtherKeys (records_of layout words)

-- each record has a cell
abbrev pub HasCell : KeyRecord → Type 0
HasCell r = r.cells ≢ []

abbrev pub HaveCells : Layout → List ℕ → Type 0
HaveCells layout words = All HasCell (records_of layout words)
