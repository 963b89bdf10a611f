-- What adding a batch in one attempt does.
use Rattle.std.specs.Prelude.{◌≡◌, ℕ, ◌-◌, ◌≤◌, true, List, length}
use Rattle.tx_model.specs.declared.pass.Stop.{Stop}
use Rattle.tx_model.specs.declared.history.Commit.{Commit}
use Rattle.tx_model.specs.declared.view.Attempt.{Attempt}
use Rattle.tx_model.specs.declared.view.PassView.{PassView}
use Rattle.tx_model.specs.History.{state_at}
use Rattle.tx_model.specs.Made.{Made}
use Rattle.tx_model.specs.Attempt.{starting_at}
use Rattle.tx_model.specs.Calls.{IsLater, Committed}
use Rattle.mail_words.specs.Key.{KeyNumbers}
use Rattle.tx_heap.specs.Layout.{mail_layout}
use Rattle.tx_heap.specs.Heap.{Heap}
use Rattle.tx_heap.specs.Mail.{mail_heap, mail_budget}
use Rattle.tx_postings.specs.Batch.{batch_of, AddsKeys}
use Rattle.tx_postings.specs.Filled.{Filled, LacksRoomFor}
use Rattle.tx_postings.specs.Moves.{MovesMail}
use Rattle.tx_postings.specs.declared.adding.Added.{Added}
use Rattle.tx_postings.specs.declared.stops.AddStop.{AddStop}
use Rattle.tx_postings.specs.declared.stops.AddStop.TheVariants.{Room, Stopped, Worn}

module _ (made : Made (List (List KeyNumbers))) (old new : PassView) (message : ℕ) where
  -- an attempt that began with all that the pass knew was filled and committed
  pub record HasAdded (added : Added) : Type 0 where
    pub begun : PassView
    pub filled : PassView
    pub start : Attempt
    pub attempt : Attempt
    pub later : IsLater old begun
    pub fresh : old.front ≤ start.start
    pub empty : start ≡ starting_at start.start
    pub fill : Filled made begun filled start attempt message added.left
    pub committed : Committed made.opening filled new attempt added.receipt
    -- its commit takes the batch of the state before it into the index
    pub adds : added.receipt.wrote ≡ true
        → let before = mail_heap made.sense (state_at made.opening new.history (added.receipt.stamp - 1)) in
        AddsKeys mail_layout message (batch_of made.sense before message) before (mail_heap made.sense (state_at made.opening new.history added.receipt.stamp))
    -- and so it is a mail move
    pub moves : added.receipt.wrote ≡ true → MovesMail made new.history added.receipt.stamp

  -- in a state no older than what the pass knew this is so
  pub record NoRoom (P : Heap → Type 0) : Type 0 where
    pub later : IsLater old new
    pub from : ℕ
    pub no_older : old.front ≤ from
    pub within : from ≤ length new.history
    pub lacks : P (mail_heap made.sense (state_at made.opening new.history from))

  -- a stop is shown from there or from later on
  pub record WasStopped (shows : List Commit → ℕ → List ℕ → Stop → Type 0) (stop : Stop) : Type 0 where
    pub later : IsLater old new
    pub from : ℕ
    pub read : List ℕ
    pub no_older : old.front ≤ from
    pub shown : shows new.history from read stop

  -- the memory has had all its commits, and so many aren't more than the opening's budget
  pub record IsWorn (index : ℕ) : Type 0 where
    pub later : IsLater old new
    pub last : index ≡ made.life
    pub full : length new.history ≡ made.life
    pub budget : made.life ≤ mail_budget made.sense made.opening

-- why a batch wasn't added
abbrev pub NotAdded : Made (List (List KeyNumbers)) → (List Commit → ℕ → List ℕ → Stop → Type 0) → PassView → PassView → ℕ → AddStop → Type 0
NotAdded made shows old new message (Room lane segment free needs) = NoRoom made old new message (LacksRoomFor made.sense message lane segment free needs)
NotAdded made shows old new message (Stopped stop) = WasStopped made old new message shows stop
NotAdded made shows old new message (Worn index) = IsWorn made old new message index
