-- Worked examples. In the segment of two keys of tx_heap `a` has a record at 10, and `c` one at 18.
use Rattle.std.specs.Prelude.{◌≡◌, ℕ, ◌+◌, List, [], ◌∷◌, ◌++◌, false, replicate, Some, None}
use Rattle.mail_words.specs.Hash.{bucket_of}
use Rattle.tx_model.specs.declared.view.Attempt.{Attempt}
use Rattle.tx_heap.specs.Layout.{sizes_of}
use Rattle.tx_heap.specs.Examples.{small, two_keys, letter, a, c, header, key_words, bare_record, heap_with, three_lists, the_made, the_pass, having}
use Rattle.tx_buckets.specs.Records.{HasRecordAt, IsFound}
use Rattle.tx_buckets.specs.Growth.{WithRecord, WithCell, IsInserted, IsCellAdded}
use Rattle.tx_buckets.specs.Reading.{IsOpened, ReadWord, ReadKey, FoundKey}
use Rattle.tx_buckets.specs.Writing.{word, record_words, cell_words, with_words, WritesMore, Inserted, AddedCell}

-- ---- records
abbrev pub FoundExample : Type 0
FoundExample = IsFound small two_keys a (Some 10)

-- the record of another key
abbrev pub NotThereExample : Type 0
NotThereExample = ¬ IsFound small two_keys a (Some 18)

-- `b` has no record
abbrev pub NoneExample : Type 0
NoneExample = IsFound small two_keys (letter 98) None

abbrev pub RecordAtExample : Type 0
RecordAtExample = HasRecordAt small two_keys 10 × (¬ HasRecordAt small two_keys 16)

-- ---- growth: an empty segment gets a record of `a`, and the record a cell of message 1
abbrev pub empty : List ℕ
empty = header 10 0 0 ++ replicate 22 0

abbrev pub one_row : List ℕ
one_row = header 18 1 1 ++ (0 ∷ 10 ∷ []) ++ key_words a ++ (0 ∷ 16 ∷ 1 ∷ 0 ∷ []) ++ replicate 12 0

abbrev pub WithRecordExample : Type 0
WithRecordExample = WithRecord small a empty bare_record × (¬ WithRecord small c empty bare_record)

abbrev pub WithCellExample : Type 0
WithCellExample = WithCell small 10 1 bare_record one_row × (¬ WithCell small 10 2 bare_record one_row)

abbrev pub InsertedExample : Type 0
InsertedExample = IsInserted small 0 a 10 (heap_with [] 1 empty) (heap_with [] 1 bare_record)

abbrev pub CellAddedExample : Type 0
CellAddedExample = IsCellAdded small 0 10 1 (heap_with [] 1 bare_record) (heap_with [] 1 one_row)

-- what was written for them
abbrev pub RecordWordsExample : Type 0
RecordWordsExample =
    record_words 10 9 0 0 a ≡ word 10 a.k0 ∷ word 11 0 ∷ word 12 0 ∷ word 13 0 ∷ word 14 0 ∷ word 15 0 ∷ word 9 10 ∷ word 0 16 ∷ word 1 1 ∷ []

abbrev pub CellWordsExample : Type 0
CellWordsExample = cell_words 16 10 0 0 1 ≡ word 16 1 ∷ word 17 0 ∷ word 15 16 ∷ word 0 18 ∷ word 2 1 ∷ []

-- ---- attempts on the opening of three messages
-- the gate of segment 5 was read as open
abbrev pub gate_read : Attempt
gate_read = having (word 24 1 ∷ []) []

abbrev pub OpenedExample : Type 0
OpenedExample = IsOpened (sizes_of three_lists) gate_read 5 × (¬ IsOpened (sizes_of three_lists) gate_read 6)

-- and then the segment's first word
abbrev pub ReadWordExample : Type 0
ReadWordExample = ReadWord the_made the_pass the_pass gate_read (having (word 24 1 ∷ word 163875 1032 ∷ []) []) 5 0 1032

-- and then the first number of a key, which isn't that of `a`
abbrev pub ReadKeyExample : Type 0
ReadKeyExample = ReadKey the_made the_pass the_pass gate_read (having (word 24 1 ∷ word 164907 0 ∷ []) []) 5 1032 a false

-- and then the head of the bucket of `a`, which has no record. Without that read no record is found either
abbrev pub head_read : Attempt
head_read = having (word 24 1 ∷ word (163875 + (8 + bucket_of a)) 0 ∷ []) []

abbrev pub FoundKeyExample : Type 0
FoundKeyExample =
    FoundKey the_made the_pass the_pass gate_read head_read 5 a None × (¬ FoundKey the_made the_pass the_pass gate_read gate_read 5 a (Some 1032))

-- nothing was written
abbrev pub InsertedNotExample : Type 0
InsertedNotExample = ¬ Inserted the_made the_pass the_pass gate_read gate_read 5 a 1032

abbrev pub AddedCellNotExample : Type 0
AddedCellNotExample = ¬ AddedCell the_made the_pass the_pass gate_read gate_read 5 1032 1

-- words 0 and 2 of segment 5
abbrev pub WithWordsExample : Type 0
WithWordsExample =
    with_words (sizes_of three_lists) 5 gate_read (word 0 7 ∷ word 2 8 ∷ []) ≡ having (word 24 1 ∷ []) (word 163875 7 ∷ word 163877 8 ∷ [])

abbrev pub WritesMoreExample : Type 0
WritesMoreExample =
    WritesMore (sizes_of three_lists) the_pass the_pass gate_read (having (word 24 1 ∷ []) (word 163875 7 ∷ word 163877 8 ∷ [])) 2
    × (¬ WritesMore (sizes_of three_lists) the_pass the_pass gate_read (having (word 24 1 ∷ []) (word 163875 7 ∷ word 163877 8 ∷ [])) 1)
