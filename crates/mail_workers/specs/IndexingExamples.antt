-- Worked examples of moves of an index, and of messages that are finished. There is one message, with one key.
use Rattle.std.specs.Prelude.{◌≡◌, ℕ, List, [], ◌∷◌, ◌++◌, replicate}
use Rattle.tx_model.specs.declared.history.Commit.{Commit}
use Rattle.tx_model.specs.declared.pass.PassState.TheVariants.{Idle}
use Rattle.tx_model.specs.declared.view.PassView.{PassView}
use Rattle.tx_model.specs.WordLaws.{word}
use Rattle.tx_model.specs.Made.{Made}
use Rattle.tx_model.specs.Shares.{kept_half, given_half}
use Rattle.tx_model.specs.ShareLaws.{whole}
use Rattle.mail_words.specs.Key.{KeyNumbers}
use Rattle.tx_heap.specs.Heap.{Heap}
use Rattle.tx_heap.specs.Examples.{a, heap_with, two_keys, all_added, grown}
use Rattle.tx_postings.specs.Moves.{IsMailMove}
use Rattle.mail_workers.specs.Indexing.{IsIndexing, Indexes, IsFinished, HasMoved}
use Rattle.mail_workers.specs.Workers.{HasGained, AllMoves, AreIndexed, joined_back}

-- ---- moves
-- a further segment is opened
abbrev pub OpensExample : Type 0
OpensExample = IsIndexing all_added grown

-- the first segment is packed: a mail move, but none of a worker's
abbrev pub with_packed : Heap
with_packed = heap_with (0 ∷ 0 ∷ 0 ∷ []) 3 two_keys

abbrev pub PacksExample : Type 0
PacksExample = IsMailMove all_added with_packed × (¬ IsIndexing all_added with_packed)

-- ---- histories
-- word 16 is the need of the message, and nothing is behind it
abbrev pub the_made : Made (List (List KeyNumbers))
the_made = record { sense = (a ∷ []) ∷ []; opening = replicate 16 0 ++ 1 ∷ []; regions = []; life = 9 }

abbrev pub sets_need : ℕ → Commit
sets_need need = record { reads = []; writes = word 16 need ∷ []; sealed = []; published = []; carry = [] }

-- the one word comes in
abbrev pub IndexesExample : Type 0
IndexesExample = Indexes the_made (sets_need 0 ∷ []) 1

-- a word more is to come then
abbrev pub RaisesExample : Type 0
RaisesExample = ¬ Indexes the_made (sets_need 2 ∷ []) 1

-- none is to come in the state after the commit, and one in the opening
abbrev pub FinishedExample : Type 0
FinishedExample = IsFinished the_made (sets_need 0 ∷ []) 0 1 × (¬ IsFinished the_made [] 0 1)

-- none was to come in state 1, and one in state 2
abbrev pub NotSinceExample : Type 0
NotSinceExample = IsFinished the_made (sets_need 0 ∷ sets_need 1 ∷ []) 1 1 × (¬ IsFinished the_made (sets_need 0 ∷ sets_need 1 ∷ []) 2 1)

-- ---- passes
abbrev pub at_first : PassView
at_first = record { state = Idle; history = []; front = 0; mine = []; owned = []; share = whole }

-- after a commit of its own
abbrev pub with_commit : Commit → PassView
with_commit commit = record at_first { history = commit ∷ []; front = 1; mine = 1 ∷ [] }

abbrev pub MovedExample : Type 0
MovedExample = HasMoved the_made at_first (with_commit (sets_need 0))

abbrev pub NotMovedExample : Type 0
NotMovedExample = ¬ HasMoved the_made at_first (with_commit (sets_need 2))

-- it drew the message, and finished it
abbrev pub GainedExample : Type 0
GainedExample = HasGained the_made at_first [] (with_commit (sets_need 0)) (1 ∷ [])

-- it drew the message, and dropped it
abbrev pub DroppedExample : Type 0
DroppedExample = ¬ HasGained the_made at_first [] at_first (1 ∷ [])

-- all is in the index after the commit, and not in the opening
abbrev pub IndexedExample : Type 0
IndexedExample =
    AllMoves the_made at_first (with_commit (sets_need 0)) × AreIndexed the_made at_first (with_commit (sets_need 0))
    × (¬ AreIndexed the_made at_first at_first)

-- two workers' passes were split off one after the other
abbrev pub JoinedBackExample : Type 0
JoinedBackExample = joined_back (kept_half (kept_half whole)) (given_half whole ∷ given_half (kept_half whole) ∷ []) ≡ whole
