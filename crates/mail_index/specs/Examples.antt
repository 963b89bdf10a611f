-- Worked examples of the definitions.
use Rattle.std.specs.Prelude.{ℕ, List, [], ◌∷◌}
use Rattle.mail_words.specs.Key.{KeyNumbers}
use Rattle.ring_words.specs.Closing.{Ending}
use Rattle.tx_heap.specs.Examples.{a}
use Rattle.mail_index.specs.Indexed.{made_for, IsIndexOf}

-- a ring that opened for these lists, and had no commit
abbrev pub uncommitted : List (List KeyNumbers) → Ending (List (List KeyNumbers))
uncommitted lists = record { made = made_for lists; history = []; owned = [] }

-- of no lists, this is an index
abbrev pub NoListsExample : Type 0
NoListsExample = IsIndexOf [] (uncommitted [])

-- of one list with one key it is none: the key is still to come
abbrev pub NothingCommittedExample : Type 0
NothingCommittedExample = ¬ IsIndexOf ((a ∷ []) ∷ []) (uncommitted ((a ∷ []) ∷ []))

-- nor is it one where a ring opened otherwise than for the lists
abbrev pub RowsAtOnceExample : Type 0
RowsAtOnceExample = (opening : List ℕ) → ¬ IsIndexOf [] (record { made = record (made_for []) { opening = 9 ∷ opening }; history = []; owned = [] })
