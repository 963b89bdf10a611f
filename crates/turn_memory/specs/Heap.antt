-- The words of the memory, with what the attempt that has them wrote and read.
use Rattle.std.specs.Prelude.{ℕ, List, [], slice_index, unwrap_or}
use Rattle.tx_model.specs.declared.word.Word.{Word}
use Rattle.tx_model.specs.Words.{value_of, put}
use Rattle.tx_model.specs.Memory.{after}
use Rattle.tx_model.specs.Attempt.{reads_with}

pub record HeapView : Type 0 where
  -- the words as they were before the attempt
  pub words : List ℕ
  -- how many commits led to these words, or with the attempt's writes to those after it
  pub commits : ℕ
  pub writes : List Word
  pub reads : List Word

-- the words as the attempt has them
abbrev pub words_of : HeapView → List ℕ
words_of heap = after heap.words heap.writes

-- a word as the attempt has it: what it wrote there, else what was there before
abbrev pub value_in : HeapView → ℕ → ℕ
value_in heap addr = unwrap_or (value_of heap.writes addr) (slice_index heap.words addr)

-- the heap after a write
abbrev pub written : HeapView → ℕ → ℕ → HeapView
written heap addr value = record heap { writes = put heap.writes addr value }

-- the heap after a read
abbrev pub read : HeapView → ℕ → HeapView
read heap addr = record heap { reads = reads_with (value_of heap.writes addr) heap.reads addr (slice_index heap.words addr) }

-- the heap of no attempt, with these words
abbrev pub resting : List ℕ → ℕ → HeapView
resting words commits = record { words = words; commits = commits; writes = []; reads = [] }
