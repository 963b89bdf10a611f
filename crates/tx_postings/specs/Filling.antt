-- How a batch comes into an index key by key.
use Rattle.std.specs.Prelude.{◌≡◌, ◌≢◌, ◌⊎◌, ◌↔◌, ℕ, ◌+◌, ◌*◌, ◌<◌, ◌≤◌, List, [], ◌∷◌, length, Option, Some, None, Contains, slice_index_or}
use Rattle.tx_model.specs.declared.word.Word.{Word}
use Rattle.tx_model.specs.declared.view.Attempt.{Attempt}
use Rattle.tx_model.specs.declared.view.PassView.{PassView}
use Rattle.tx_model.specs.Memory.{after}
use Rattle.tx_model.specs.Made.{Made}
use Rattle.tx_model.specs.Attempt.{Fits}
use Rattle.mail_words.specs.Key.{KeyNumbers}
use Rattle.mail_words.specs.Hash as hash
use Rattle.tx_heap.specs.Layout.{Layout, mail_layout, segment_len}
use Rattle.tx_heap.specs.Pairwise.{Pairwise}
use Rattle.tx_heap.specs.Segment.{Row, free_of, head_at, newest_at}
use Rattle.tx_heap.specs.Heap.{Heap, own_of, segment_of}
use Rattle.tx_heap.specs.Index.{HasCells, IsIndex, rows_of, own_rows}
use Rattle.tx_heap.specs.Mail.{IsGoodMail, mail_heap}
use Rattle.tx_heap.specs.Calls.{made_sizes}
use Rattle.tx_buckets.specs.Records.{IsFound}
use Rattle.tx_buckets.specs.Reading.{ReadWord}
use Rattle.tx_buckets.specs.Writing.{WritesMore, word, with_words}
use Rattle.tx_postings.specs.Batch.{TakeWords}
use Rattle.tx_postings.specs.declared.heads.Head.{Head}

-- ---- one posting
-- how many words a posting takes, by where the key's record is
abbrev pub words_for : Option ℕ → ℕ
words_for None = 8
words_for (Some at) = 2

-- there is room for the posting, and no number is so large that it wraps
abbrev pub FitsPosting : Head → Option ℕ → Type 0
FitsPosting head None = (head.free + 8 ≤ segment_len) × (head.keys < segment_len) × (head.cells < segment_len)
FitsPosting head (Some at) = (at + 6 ≤ segment_len) × (head.free + 2 ≤ segment_len) × (head.cells < segment_len)

-- the word that is looked at: the head of the key's bucket, or the newest cell of its record
abbrev pub looked_at : KeyNumbers → Option ℕ → ℕ
looked_at key None = head_at (hash.bucket_of key)
looked_at key (Some at) = at + newest_at

-- the words of a new cell, and the newest cell of its record
abbrev pub known_words : Head → (at newest message : ℕ) → List Word
known_words head at newest message = word head.free message ∷ word (head.free + 1) newest ∷ word (at + 5) head.free ∷ []

-- the words of a new record and its first cell, and the head of the record's bucket
abbrev pub new_words : Head → KeyNumbers → (bucket next message : ℕ) → List Word
new_words head key bucket next message =
    let at = head.free in
    let cell = at + 6 in
    word at key.k0 ∷ word (at + 1) key.k1 ∷ word (at + 2) key.k2 ∷ word (at + 3) key.k3 ∷ word (at + 4) next
    ∷ word bucket at ∷ word cell message ∷ word (cell + 1) 0 ∷ word (at + 5) cell ∷ []

-- the words of a posting but the first ones of the segment, by the word that was looked at
abbrev pub posting_words : Head → KeyNumbers → Option ℕ → (was message : ℕ) → List Word
posting_words head key None was message = new_words head key (head_at (hash.bucket_of key)) was message
posting_words head key (Some at) was message = known_words head at was message

-- and what the first ones are to be
abbrev pub head_then : Head → Option ℕ → Head
head_then head None = record { segment = head.segment; free = head.free + 8; keys = head.keys + 1; cells = head.cells + 1; needs = head.needs }
head_then head (Some at) = record { segment = head.segment; free = head.free + 2; keys = head.keys; cells = head.cells + 1; needs = head.needs }

module _ (made : Made (List (List KeyNumbers))) (old new : PassView) (before now : Attempt) where
  -- a word was looked at, and those of the posting were written
  pub record PutPosting (key : KeyNumbers) (message : ℕ) (offset : Option ℕ) (head then : Head) : Type 0 where
    pub between : Attempt
    pub was : ℕ
    pub read : ReadWord made old new before between head.segment (looked_at key offset) was
    pub wrote : now ≡ with_words (made_sizes made) head.segment between (posting_words head key offset was message)
    pub head_is : then ≡ head_then head offset

-- ---- several keys
-- the rows of these keys came in for the message, and the needs are as before
pub record IsFilled (layout : Layout) (message : ℕ) (keys : List KeyNumbers) (old new : Heap) : Type 0 where
  pub pool : new.pool ≡ old.pool
  pub lanes : new.lanes ≡ old.lanes
  pub needs : new.needs ≡ old.needs
  pub gates : new.gates ≡ old.gates
  pub links : new.links ≡ old.links
  pub many : length new.segments ≡ length old.segments
  pub index : IsIndex layout new
  pub cells : HasCells layout new
  pub rows : (row : Row) → Contains (rows_of layout new) row ↔ (Contains (rows_of layout old) row ⊎ ((row.1 ≡ message) × Contains keys row.0))
  pub once : Pairwise ◌≢◌ (rows_of layout new)
  pub own : own_rows layout new ≡ own_rows layout old + length keys
  pub others : (segment : ℕ) → ((lane : ℕ) → lane < length old.lanes → own_of old lane ≢ segment) → segment_of new segment ≡ segment_of old segment

-- the records of the keys are here in the own segments of their lanes, and each lane has room for its keys
pub record CanFill (layout : Layout) (keys : List KeyNumbers) (offsets : List (Option ℕ)) (heap : Heap) : Type 0 where
  pub found : (k : ℕ) (key : KeyNumbers) → k < length keys
      → IsFound layout (segment_of heap (own_of heap (layout.lane_of (slice_index_or keys k key)))) (slice_index_or keys k key) (slice_index_or offsets k None)
  pub room : (lane : ℕ) → lane < length heap.lanes → (count : ℕ) × TakeWords layout heap lane keys count
      × (free_of (segment_of heap (own_of heap lane)) + count ≤ segment_len)

-- no row of a key and the message is there yet
abbrev pub HasNone : Layout → List KeyNumbers → ℕ → Heap → Type 0
HasNone layout keys message heap = (key : KeyNumbers) → Contains keys key → ¬ Contains (rows_of layout heap) (key, message)

module _ (made : Made (List (List KeyNumbers))) (old new : PassView) (before now : Attempt) where
  -- all keys were put, in an attempt that had written nothing
  pub record PutAll (keys : List KeyNumbers) (message : ℕ) : Type 0 where
    pub more : WritesMore (made_sizes made) old new before now (9 * length keys + 24)
    pub filled : (memory : List ℕ) → IsGoodMail made.sense made.opening memory → Fits memory now []
        → IsFilled mail_layout message keys (mail_heap made.sense memory) (mail_heap made.sense (after memory now.writes))
