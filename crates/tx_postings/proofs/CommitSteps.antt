-- A batch that was filled is committed, or isn't.
use Rattle.std.proofs.Common.{◌≡◌, ℕ, ◌+◌, ◌-◌, true, false, List, ◌∷◌, length, sym, ◌∙◌, ap, subst, arith, inl, inr}
use Rattle.mail_words.specs.Key.{KeyNumbers}
use Rattle.tx_model.specs.declared.pass.Stop.{Stop}
use Rattle.tx_model.specs.declared.pass.Receipt.{Receipt}
use Rattle.tx_model.specs.declared.history.Commit.{Commit}
use Rattle.tx_model.specs.declared.view.Attempt.{Attempt}
use Rattle.tx_model.specs.declared.view.PassView.{PassView}
use Rattle.tx_model.specs.History.{state_at}
use Rattle.tx_model.specs.Words.{addresses}
use Rattle.tx_model.specs.Made.{Made}
use Rattle.tx_model.specs.Pass.{IsPass}
use Rattle.tx_model.specs.Attempt.{commit_of}
use Rattle.tx_model.specs.Calls.{Began, Ended, Received, Committed, WornOut}
use Rattle.tx_model.proofs.lemmas.Calls.{later_then}
use Rattle.tx_model.proofs.lemmas.Memories.{after_commit_none}
use Rattle.tx_model.proofs.lemmas.States.{state_next, budget_at}
use Rattle.tx_heap.specs.Layout.{mail_layout}
use Rattle.tx_heap.proofs.lemmas.Reads.{fits_alone}
use Rattle.tx_heap.specs.Mail.{IsGoodMail, mail_heap, mail_budget}
use Rattle.tx_postings.specs.Adding.{HasAdded, WasStopped, IsWorn, NotAdded}
use Rattle.tx_postings.specs.Batch.{batch_of, AddsKeys}
use Rattle.tx_postings.specs.Filled.{Filled, NotFilled}
use Rattle.tx_postings.specs.Stops.{add_stop}
use Rattle.tx_postings.proofs.lemmas.Moves.{filled_moves, committed_moves}
use Rattle.tx_postings.specs.declared.stops.FillStop.{FillStop}
use Rattle.tx_postings.specs.declared.stops.FillStop.TheVariants.{Room, Stopped}

false_not_true : false ≡ true → ⊥
false_not_true e = cc

-- a fill that was refused
pub not_added : (made : Made (List (List KeyNumbers))) {old begun : PassView} {start : Attempt} (message : ℕ)
    (shows : List Commit → ℕ → List ℕ → Stop → Type 0) (new : PassView) → Began old begun start → (stop : FillStop)
    → NotFilled made shows begun new start message stop → NotAdded made shows old new message (add_stop stop)
not_added made message shows new began (Room lane segment free needs) lacked = record {
  later = later_then began.later lacked.ended.later;
  from = lacked.from;
  no_older = omega (arith, began.fresh, lacked.no_older);
  within = lacked.within;
  lacks = lacked.lacks;
}
not_added made message shows new began (Stopped stop) (ended, shown) = record {
  later = later_then began.later ended.later;
  from = shown.start;
  read = shown.asked ∷ addresses shown.reads;
  no_older = omega (arith, began.fresh, shown.no_older);
  shown = shown.shown;
}

module _ {made : Made (List (List KeyNumbers))} {old begun filled : PassView} {start attempt : Attempt} {message left : ℕ} (began : Began old begun start)
    (fill : Filled made begun filled start attempt message left) where
  -- a commit that was refused
  pub commit_stopped : (shows : List Commit → ℕ → List ℕ → Stop → Type 0) (new : PassView) (stop : Stop) → Ended filled new attempt
      × shows new.history attempt.start (addresses attempt.reads) stop → WasStopped made old new message shows stop
  commit_stopped shows new stop (ended, shown) = record {
    later = later_then began.later (later_then fill.goes_on.later ended.later);
    from = attempt.start;
    read = addresses attempt.reads;
    no_older = omega (arith, began.fresh, fill.goes_on.start);
    shown = shown;
  }

  pub commit_worn : {new : PassView} {now : Attempt} {index : ℕ} → WornOut made.life filled new attempt index → IsPass IsGoodMail mail_budget made new now
      → IsWorn made old new message index
  commit_worn {new} worn knows = record {
    later = later_then began.later (later_then fill.goes_on.later worn.ended.later);
    last = worn.last;
    full = worn.full;
    budget =
        omega (
          arith,
          worn.full,
          budget_at (IsGoodMail made.sense made.opening) (mail_budget made.sense) made.opening new.history knows.good_states
              (length new.history) (omega arith),
        );
  }

  -- a commit
  pub has_added : {new : PassView} {now : Attempt} (receipt : Receipt) → Committed made.opening filled new attempt receipt
      → IsPass IsGoodMail mail_budget made new now → HasAdded made old new message (record { receipt = receipt; left = left })
  has_added {new} receipt committed knows = record {
    begun = begun;
    filled = filled;
    start = start;
    attempt = attempt;
    later = began.later;
    fresh = began.fresh;
    empty = began.empty;
    fill = fill;
    committed = committed;
    adds = λ wrote. by_receipt wrote committed.received;
    moves = λ wrote. committed_moves (filled_moves began.empty fill) knows.good_states knows.front committed wrote;
  }
    where
      by_receipt : receipt.wrote ≡ true → Received made.opening filled new attempt receipt
          → AddsKeys mail_layout message (batch_of made.sense (mail_heap made.sense (state_at made.opening new.history (receipt.stamp - 1))) message)
          (mail_heap made.sense (state_at made.opening new.history (receipt.stamp - 1)))
          (mail_heap made.sense (state_at made.opening new.history receipt.stamp))
      by_receipt is (inr (other, none, read)) = absurd (false_not_true (sym other ∙ is))
      by_receipt is (inl (same, some, wrote)) =
          let before = state_at made.opening new.history (receipt.stamp - 1) in
          let back : receipt.stamp - 1 + 1 ≡ receipt.stamp = omega (arith, wrote.later) in
          let good = knows.good_states.states (receipt.stamp - 1) (omega (arith, wrote.complete, knows.front)) in
          let then = ap (state_at made.opening new.history) (sym back) ∙ state_next made.opening new.history (receipt.stamp - 1)
          (commit_of attempt filled.owned) wrote.there
          ∙ after_commit_none before attempt filled.owned (fill.published ∙ ap (λ (a : Attempt). a.published) began.empty) in
          subst (λ m. AddsKeys mail_layout message (batch_of made.sense (mail_heap made.sense before) message) (mail_heap made.sense before)
          (mail_heap made.sense m)) (sym then) (fill.adds before good (fits_alone wrote.fits))

-- ---- the share stays
pub share_not_filled : (made : Made (List (List KeyNumbers))) (begun : PassView) (start : Attempt) (message : ℕ)
    (shows : List Commit → ℕ → List ℕ → Stop → Type 0) (new : PassView) (stop : FillStop)
    → NotFilled made shows begun new start message stop → new.share ≡ begun.share
share_not_filled made begun start message shows new (Room lane segment free needs) lacked = lacked.ended.later.share
share_not_filled made begun start message shows new (Stopped stop) (ended, shown) = ended.later.share

share_received : (opening : List ℕ) (filled new : PassView) (attempt : Attempt) (receipt : Receipt) → Received opening filled new attempt receipt
    → new.share ≡ filled.share
share_received opening filled new attempt receipt (inl (same, some, wrote)) = wrote.share
share_received opening filled new attempt receipt (inr (other, none, read)) = read.later.share

pub share_committed : {opening : List ℕ} {filled new : PassView} {attempt : Attempt} {receipt : Receipt} → Committed opening filled new attempt receipt
    → new.share ≡ filled.share
share_committed {opening} {filled} {new} {attempt} {receipt} committed = share_received opening filled new attempt receipt committed.received
