-- What adding a batch leaves of an attempt.
use Rattle.std.specs.Prelude.{◌≡◌, ◌≢◌, ℕ, ◌-◌, ◌≤◌, List, [], length}
use Rattle.tx_model.specs.declared.pass.Stop.{Stop}
use Rattle.tx_model.specs.declared.history.Commit.{Commit}
use Rattle.tx_model.specs.declared.view.Attempt.{Attempt}
use Rattle.tx_model.specs.declared.view.PassView.{PassView}
use Rattle.tx_model.specs.Memory.{after}
use Rattle.tx_model.specs.Made.{Made}
use Rattle.tx_model.specs.Attempt.{Fits, MayCommit}
use Rattle.tx_model.specs.Calls.{IsStopped, GoesOn}
use Rattle.mail_words.specs.Key.{KeyNumbers}
use Rattle.tx_heap.specs.Layout.{mail_layout}
use Rattle.tx_heap.specs.Heap.{Heap, need_of}
use Rattle.tx_heap.specs.Mail.{IsGoodMail, mail_heap, mail_budget}
use Rattle.tx_postings.specs.Batch.{batch_of, AddsKeys, HasRoomFor, LacksRoom}
use Rattle.tx_postings.specs.Looking.{LackedIn}
use Rattle.tx_postings.specs.declared.stops.FillStop.{FillStop}
use Rattle.tx_postings.specs.declared.stops.FillStop.TheVariants.{Room, Stopped}

-- in the index, the lane lacks room for the batch of the message, and is the lowest such lane
abbrev pub LacksRoomFor : List (List KeyNumbers) → ℕ → (lane segment free needs : ℕ) → Heap → Type 0
LacksRoomFor lists message lane segment free needs heap = LacksRoom mail_layout (batch_of lists heap message) lane segment free needs heap

module _ (made : Made (List (List KeyNumbers))) (old new : PassView) (before now : Attempt) (message : ℕ) where
  -- what follows is so for every good memory that fits the attempt
  pub record Filled (left : ℕ) : Type 0 where
    pub goes_on : GoesOn old new before now
    pub sealed : now.sealed ≡ before.sealed
    pub published : now.published ≡ before.published
    pub few : length now.writes ≤ 169
    -- so many words of the message are still to come then
    pub left_is : (memory : List ℕ) → IsGoodMail made.sense made.opening memory → Fits memory now []
        → left ≡ need_of (mail_heap made.sense memory) message - length (batch_of made.sense (mail_heap made.sense memory) message)
    -- its batch comes in, and nothing else changes
    pub adds : (memory : List ℕ) → IsGoodMail made.sense made.opening memory → Fits memory now []
        → AddsKeys mail_layout message (batch_of made.sense (mail_heap made.sense memory) message) (mail_heap made.sense memory)
        (mail_heap made.sense (after memory now.writes))
    -- there was room for it
    pub room : (memory : List ℕ) → IsGoodMail made.sense made.opening memory → Fits memory now []
        → HasRoomFor mail_layout (batch_of made.sense (mail_heap made.sense memory) message) (mail_heap made.sense memory)
    -- where none was to come nothing is written
    pub none : (memory : List ℕ) → IsGoodMail made.sense made.opening memory → Fits memory now [] → need_of (mail_heap made.sense memory) message ≡ 0
        → now.writes ≡ []
    -- and the attempt may be committed
    pub may : now.writes ≢ [] → MayCommit (IsGoodMail made.sense made.opening) (mail_budget made.sense) now new.owned

-- why a batch wasn't added
abbrev pub NotFilled : Made (List (List KeyNumbers)) → (List Commit → ℕ → List ℕ → Stop → Type 0) → PassView → PassView → Attempt → ℕ → FillStop → Type 0
NotFilled made shows old new before message (Stopped stop) = IsStopped shows made.opening old new before stop
NotFilled made shows old new before message (Room lane segment free needs) =
    LackedIn made old new before (LacksRoomFor made.sense message lane segment free needs)
