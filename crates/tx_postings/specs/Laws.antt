-- Laws about the definitions: which commits move an index, and that the messages of a key are those of its rows, each once.
use Rattle.std.specs.Prelude.{◌≡◌, ◌≢◌, ◌↔◌, ℕ, ◌<◌, ◌≤◌, true, List, length, Contains}
use Rattle.tx_model.specs.declared.gate.TheConstants.{GATE_PACKED}
use Rattle.tx_model.specs.declared.pass.Receipt.{Receipt}
use Rattle.tx_model.specs.declared.view.Attempt.{Attempt}
use Rattle.tx_model.specs.declared.view.PassView.{PassView}
use Rattle.tx_model.specs.History.{IsGoodHistory}
use Rattle.tx_model.specs.Made.{Made}
use Rattle.tx_model.specs.Attempt.{starting_at}
use Rattle.tx_model.specs.Calls.{Committed}
use Rattle.mail_words.specs.Key.{KeyNumbers}
use Rattle.tx_heap.specs.Layout.{Layout}
use Rattle.tx_heap.specs.Pairwise.{Pairwise}
use Rattle.tx_heap.specs.Heap.{Heap, gate_of}
use Rattle.tx_heap.specs.Index.{IsIndex, rows_of}
use Rattle.tx_heap.specs.Mail.{IsGoodMail, mail_budget}
use Rattle.tx_postings.specs.Filled.{Filled}
use Rattle.tx_postings.specs.declared.leaving.Leaving.TheVariants.{Fresh}
use Rattle.tx_postings.specs.Leaving.{DidLeave}
use Rattle.tx_postings.specs.Listing.{AreListed}
use Rattle.tx_postings.specs.Moves.{IsMailMove, MovesMail, WritesMove}

-- ---- moves
abbrev pub StaysStill : Type 0
StaysStill = (heap : Heap) → IsMailMove heap heap

abbrev pub MovesThen : Type 0
MovesThen = (one two three : Heap) → IsMailMove one two → IsMailMove two three → IsMailMove one three

-- every state of the history is good, and the pass knows no more commits than these
abbrev pub KnowsGood : Made (List (List KeyNumbers)) → PassView → Type 0
KnowsGood made view = IsGoodHistory (IsGoodMail made.sense made.opening) (mail_budget made.sense) made.opening view.history × (view.front ≤ length view.history)

-- an attempt whose writes move the index makes a commit that does
abbrev pub CommitMoves : Type 0
CommitMoves = (made : Made (List (List KeyNumbers))) (old new : PassView) (attempt : Attempt) (receipt : Receipt)
    → WritesMove made attempt → KnowsGood made new → Committed made.opening old new attempt receipt → receipt.wrote ≡ true
    → MovesMail made new.history receipt.stamp

-- the writes of a batch do
abbrev pub FilledMoves : Type 0
FilledMoves = (made : Made (List (List KeyNumbers))) (old new : PassView) (before now : Attempt) (message left : ℕ)
    → before ≡ starting_at before.start → Filled made old new before now message left → WritesMove made now

-- those that leave a full segment do
abbrev pub LeftMoves : Type 0
LeftMoves = (made : Made (List (List KeyNumbers))) (attempt : Attempt) (lane segment fresh : ℕ)
    → DidLeave made.sense made.opening lane segment (Fresh fresh) attempt → WritesMove made attempt

-- ---- lists
-- no segment in use is packed
abbrev pub HasNonePacked : Heap → Type 0
HasNonePacked heap = (segment : ℕ) → segment < heap.pool → gate_of heap segment ≢ GATE_PACKED

-- the messages listed for a key are exactly those of its rows
abbrev pub ListedRows : Type 0
ListedRows =
    (layout : Layout) (heap : Heap) (key : KeyNumbers) (messages : List ℕ) → IsIndex layout heap → HasNonePacked heap → layout.lane_of key < length heap.lanes
    → AreListed layout key heap messages → (message : ℕ) → Contains messages message ↔ Contains (rows_of layout heap) (key, message)

-- where each row is there once, as in every good index, no message is listed twice
abbrev pub ListedOnce : Type 0
ListedOnce = (layout : Layout) (heap : Heap) (key : KeyNumbers) (messages : List ℕ) → IsIndex layout heap
    → Pairwise ◌≢◌ (rows_of layout heap) → layout.lane_of key < length heap.lanes
    → AreListed layout key heap messages → Pairwise ◌≢◌ messages
