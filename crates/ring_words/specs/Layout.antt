-- Where the words of the ring lie in the table: the index, the tags, the signature words and the heap, one after the other.
use Rattle.std.specs.Prelude.{ℕ, ◌+◌, ◌*◌, ◌<◌}
use Rattle.ring_core.specs.declared.shape.Shape.{Shape}
use Rattle.ring_core.specs.declared.action.Action.{Action}
use Rattle.ring_core.specs.declared.action.Action.TheVariants as action

abbrev pub table_size : Shape → ℕ
table_size shape = 1 + shape.ring + shape.ring * shape.sig_words + shape.heap

module _ (shape : Shape) where
  abbrev pub tag_index : ℕ → ℕ
  tag_index slot = 1 + slot

  abbrev pub sig_index : ℕ → ℕ → ℕ
  sig_index slot word = 1 + shape.ring + (slot * shape.sig_words + word)

  abbrev pub heap_index : ℕ → ℕ
  heap_index addr = 1 + shape.ring + shape.ring * shape.sig_words + addr

  -- the index of the word that a step touches
  abbrev pub index_at : Action → ℕ
  index_at action.LoadIndex = 0
  index_at (action.SwapIndex from) = 0
  index_at (action.LoadTag slot) = tag_index slot
  index_at (action.StoreTag slot tag) = tag_index slot
  index_at (action.LoadSig slot word) = sig_index slot word
  index_at (action.StoreSig slot word value) = sig_index slot word
  index_at (action.LoadHeap addr) = heap_index addr
  index_at (action.StoreHeap addr value) = heap_index addr
  index_at _ = 0

  -- the word is one of the ring's
  abbrev pub IsInside : Action → Type 0
  IsInside (action.LoadTag slot) = slot < shape.ring
  IsInside (action.StoreTag slot tag) = slot < shape.ring
  IsInside (action.LoadSig slot word) = slot * shape.sig_words + word < shape.ring * shape.sig_words
  IsInside (action.StoreSig slot word value) = slot * shape.sig_words + word < shape.ring * shape.sig_words
  IsInside (action.LoadHeap addr) = addr < shape.heap
  IsInside (action.StoreHeap addr value) = addr < shape.heap
  IsInside _ = Unit {0}

-- a step that loads a word
abbrev pub IsLoad : Action → Type 0
IsLoad action.LoadIndex = Unit {0}
IsLoad (action.LoadTag slot) = Unit {0}
IsLoad (action.LoadSig slot word) = Unit {0}
IsLoad (action.LoadHeap addr) = Unit {0}
IsLoad _ = ⊥
