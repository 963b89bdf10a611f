-- What writes of an open segment leave.
use Rattle.std.specs.Prelude.{◌≡◌, ℕ, ◌+◌, ◌≤◌, List, [], ◌∷◌, length}
use Rattle.tx_model.specs.declared.word.Word.{Word}
use Rattle.tx_model.specs.declared.view.Attempt.{Attempt}
use Rattle.tx_model.specs.declared.view.PassView.{PassView}
use Rattle.tx_model.specs.History.{IsBeginning}
use Rattle.tx_model.specs.Memory.{after}
use Rattle.tx_model.specs.Made.{Made}
use Rattle.tx_model.specs.Attempt.{Fits}
use Rattle.tx_model.specs.Calls.{GoesOn, with_write}
use Rattle.mail_words.specs.Key.{KeyNumbers}
use Rattle.tx_heap.specs.Layout.{Sizes, mail_layout, base_at}
use Rattle.tx_heap.specs.Heap.{segment_of}
use Rattle.tx_heap.specs.Index.{IsIndex}
use Rattle.tx_heap.specs.Mail.{IsGoodMail, mail_heap}
use Rattle.tx_heap.specs.Calls.{made_sizes, HoldsOverIndex}
use Rattle.tx_buckets.specs.Records.{IsRecordOf}
use Rattle.tx_buckets.specs.Growth.{IsInserted, IsCellAdded}
use Rattle.tx_buckets.specs.Reading.{IsOpened}

-- ---- words of a segment
abbrev pub word : ℕ → ℕ → Word
word addr value = record { addr = addr; value = value }

-- the six words of a new record at an offset, the head of its bucket, the free offset, and the number of records
abbrev pub record_words : (at bucket head keys : ℕ) → KeyNumbers → List Word
record_words at bucket head keys key =
    word at key.k0 ∷ word (at + 1) key.k1 ∷ word (at + 2) key.k2 ∷ word (at + 3) key.k3 ∷ word (at + 4) head ∷ word (at + 5) 0
    ∷ word bucket at ∷ word 0 (at + 6) ∷ word 1 (keys + 1) ∷ []

-- the two words of a new cell at an offset, the newest cell of its record, the free offset, and the number of cells
abbrev pub cell_words : (at offset newest cells message : ℕ) → List Word
cell_words at offset newest cells message =
    word at message ∷ word (at + 1) newest ∷ word (offset + 5) at ∷ word 0 (at + 2) ∷ word 2 (cells + 1) ∷ []

-- ---- attempts
-- the attempt with these words written, whose addresses count from the first word of the segment
abbrev pub with_words : Sizes → ℕ → Attempt → List Word → Attempt
with_words sizes segment attempt [] = attempt
with_words sizes segment attempt (word ∷ words) = with_words sizes segment (with_write attempt (base_at sizes segment + word.addr) word.value) words

-- the attempt read more, and wrote at most so many more words of open segments
pub record WritesMore (sizes : Sizes) (old new : PassView) (before now : Attempt) (most : ℕ) : Type 0 where
  pub goes_on : GoesOn old new before now
  pub reads : IsBeginning before.reads now.reads
  pub few : length now.writes ≤ length before.writes + most
  pub sealed : now.sealed ≡ before.sealed
  pub published : now.published ≡ before.published
  pub opened : (segment : ℕ) → IsOpened sizes before segment → IsOpened sizes now segment

module _ (made : Made (List (List KeyNumbers))) (old new : PassView) (before now : Attempt) (segment : ℕ) where
  -- a record of the key was put into the segment
  pub record Inserted (key : KeyNumbers) (at : ℕ) : Type 0 where
    pub more : WritesMore (made_sizes made) old new before now 9
    -- over each memory, the index is what it was, with the record
    pub changed : (memory : List ℕ) → IsGoodMail made.sense made.opening memory → Fits memory now []
        → IsInserted mail_layout segment key at (mail_heap made.sense (after memory before.writes)) (mail_heap made.sense (after memory now.writes))
    pub found : HoldsOverIndex made now (λ heap. IsRecordOf mail_layout (segment_of heap segment) key at)
    pub index : HoldsOverIndex made now (IsIndex mail_layout)

  -- a cell of the message was put to the record at an offset
  pub record AddedCell (offset message : ℕ) : Type 0 where
    pub more : WritesMore (made_sizes made) old new before now 5
    -- over each memory, the index is what it was, with the cell
    pub changed : (memory : List ℕ) → IsGoodMail made.sense made.opening memory → Fits memory now []
        → IsCellAdded mail_layout segment offset message (mail_heap made.sense (after memory before.writes)) (mail_heap made.sense (after memory now.writes))
    pub index : HoldsOverIndex made now (IsIndex mail_layout)
