-- The text of a trace.
use Rattle.std.specs.Prelude.{ℕ, zero, suc, List, [], ◌∷◌, ◌++◌, length, map, codes, decimal, slice_index}
use Rattle.std.specs.List.{concat}
use Rattle.ring_core.specs.declared.action.Later.{Later}
use Rattle.ring_core.specs.declared.action.Later.TheVariants.{Lost, Unpublished, SlotBusy, Order}
use Rattle.ring_runs.specs.declared.trace.Happened.{Happened}
use Rattle.ring_runs.specs.declared.trace.Happened.TheVariants as happened
use Rattle.ring_runs.specs.declared.trace.TraceLine.{TraceLine}
use Rattle.ring_runs.specs.declared.trace.Trace.{Trace}

-- each number behind a space
abbrev pub with_numbers : List ℕ → List ℕ
with_numbers numbers = concat (map (λ number. 32 ∷ decimal number) numbers)

-- a line of a name and numbers
abbrev pub numbers_line : List ℕ → List ℕ → List ℕ
numbers_line name numbers = name ++ (with_numbers numbers ++ 10 ∷ [])

abbrev pub later_line : Later → List ℕ
later_line (Lost index) = numbers_line (codes "later lost") (index ∷ [])
later_line (Unpublished stamp tag) = numbers_line (codes "later unpublished") (stamp ∷ tag ∷ [])
later_line (SlotBusy stamp tag) = numbers_line (codes "later slot") (stamp ∷ tag ∷ [])
later_line (Order stamp tag) = numbers_line (codes "later order") (stamp ∷ tag ∷ [])

-- what a caller was answered
abbrev pub answer_line : Happened → List ℕ
answer_line (happened.Start start) = numbers_line (codes "start") (start ∷ [])
answer_line (happened.Value addr value) = numbers_line (codes "value") (addr ∷ value ∷ [])
answer_line (happened.Met stamp) = numbers_line (codes "met") (stamp ∷ [])
answer_line (happened.Overrun stamp seen) = numbers_line (codes "overrun") (stamp ∷ seen ∷ [])
answer_line happened.Full = numbers_line (codes "full") []
answer_line (happened.Stamped stamp) = numbers_line (codes "stamped") (stamp ∷ [])
answer_line (happened.Later later) = later_line later
answer_line (happened.Completed stamp) = numbers_line (codes "completed") (stamp ∷ [])
answer_line (happened.Worn index) = numbers_line (codes "worn") (index ∷ [])
answer_line (happened.Done stamp) = numbers_line (codes "done") (stamp ∷ [])
answer_line (happened.Loaded addr value) = numbers_line (codes "loaded") (addr ∷ value ∷ [])
answer_line (happened.Stored addr value) = numbers_line (codes "stored") (addr ∷ value ∷ [])

-- the caller's number, and the answer
abbrev pub line_text : TraceLine → List ℕ
line_text line = decimal line.who ++ 32 ∷ answer_line line.what

abbrev pub lines_text : List TraceLine → List ℕ
lines_text lines = concat (map line_text lines)

-- a word of the memory that isn't 0
abbrev pub word_text : ℕ → ℕ → List ℕ
word_text addr zero = []
word_text addr (suc less) = numbers_line (codes "word") (addr ∷ suc less ∷ [])

-- the first so many words, in order
abbrev pub words_text : List ℕ → ℕ → List ℕ
words_text words zero = []
words_text words (suc count) = words_text words count ++ word_text count (slice_index words count)

-- the answers, then the index, and then the memory
abbrev pub printed : Trace → List ℕ
printed trace = lines_text trace.lines ++ (numbers_line (codes "index") (trace.index ∷ []) ++ words_text trace.words (length trace.words))
