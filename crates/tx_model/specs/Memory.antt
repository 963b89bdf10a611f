-- A memory is a list of words. What writes leave of it, and which words are in it.
use Rattle.std.specs.Prelude.{◌≡◌, ℕ, ◌+◌, List, [], ◌∷◌, Some, slice_get, slice_set, take, drop, All}
use Rattle.tx_model.specs.declared.gate.Region.{Region}
use Rattle.tx_model.specs.declared.word.Word.{Word}

-- the memory with the values of these words
abbrev pub after : List ℕ → List Word → List ℕ
after memory [] = memory
after memory (word ∷ words) = after (slice_set memory word.addr word.value) words

-- the memory has these words
abbrev pub Agrees : List Word → List ℕ → Type 0
Agrees words memory = All (λ word. slice_get memory word.addr ≡ Some word.value) words

-- the words of a region
abbrev pub words_in : List ℕ → Region → List ℕ
words_in memory region = take region.len (drop region.base memory)

-- these values, at the addresses from the first one on
abbrev pub words_from : ℕ → List ℕ → List Word
words_from addr [] = []
words_from addr (value ∷ values) = record { addr = addr; value = value } ∷ words_from (addr + 1) values
