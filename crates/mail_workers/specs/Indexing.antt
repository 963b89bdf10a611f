-- What workers do to an index, and what is known of the messages that they have drawn.
use Rattle.std.specs.Prelude.{◌≡◌, ◌⊎◌, ℕ, ◌-◌, ◌≤◌, List, length, Contains}
use Rattle.tx_model.specs.declared.gate.TheConstants.{GATE_PACKED}
use Rattle.tx_model.specs.declared.history.Commit.{Commit}
use Rattle.tx_model.specs.declared.view.PassView.{PassView}
use Rattle.tx_model.specs.History.{state_at, IsBeginning}
use Rattle.tx_model.specs.Made.{Made}
use Rattle.mail_words.specs.Key.{KeyNumbers}
use Rattle.tx_heap.specs.Heap.{Heap, need_of, gate_of}
use Rattle.tx_heap.specs.Mail.{mail_heap}
use Rattle.tx_postings.specs.Moves.{IsMailMove}

-- a mail move that packs no segment
pub record IsIndexing (old new : Heap) : Type 0 where
  pub moves : IsMailMove old new
  pub packs_none : (segment : ℕ) → gate_of new segment ≡ GATE_PACKED → gate_of old segment ≡ GATE_PACKED

module _ (made : Made (List (List KeyNumbers))) where
  -- the index after so many commits
  abbrev pub index_at : List Commit → ℕ → Heap
  index_at history k = mail_heap made.sense (state_at made.opening history k)

  -- the commit of this number is such a move
  pub record Indexes (history : List Commit) (stamp : ℕ) : Type 0 where
    pub least : 1 ≤ stamp
    pub happened : stamp ≤ length history
    pub step : IsIndexing (index_at history (stamp - 1)) (index_at history stamp)

  -- in a state that is no older than the given one, so many words of the message were still to come
  pub record NeedWas (history : List Commit) (since message left : ℕ) : Type 0 where
    pub state : ℕ
    pub no_older : since ≤ state
    pub happened : state ≤ length history
    pub need : need_of (index_at history state) message ≡ left

  -- in such a state all words of the message were in the index
  abbrev pub IsFinished : List Commit → ℕ → ℕ → Type 0
  IsFinished history since message = NeedWas history since message 0

  -- each of the pass's own commits that isn't one of these is such a move
  abbrev pub AreMoves : List ℕ → PassView → Type 0
  AreMoves mine view = (stamp : ℕ) → Contains view.mine stamp → Contains mine stamp ⊎ Indexes view.history stamp

  -- each number drawn that isn't one of those before is of a finished message
  abbrev pub AreFinished : ℕ → List ℕ → List ℕ → PassView → Type 0
  AreFinished since before drawn view =
      (message : ℕ) → Contains drawn message → Contains before message ⊎ IsFinished view.history since message

  -- the pass knows no less, owns the same, and has further commits that are such moves
  pub record HasMoved (old new : PassView) : Type 0 where
    pub history : IsBeginning old.history new.history
    pub front : old.front ≤ new.front
    pub mine : IsBeginning old.mine new.mine
    pub moves : AreMoves old.mine new
    pub owned : new.owned ≡ old.owned
    pub share : new.share ≡ old.share
