-- The stop of a read, as one of the attempt that the read was made in, and of the attempt as it was before.
use Rattle.std.proofs.Common.{◌≡◌, ℕ, List, ◌∷◌, arith}
use Rattle.mail_words.specs.Key.{KeyNumbers}
use Rattle.tx_model.specs.declared.history.Commit.{Commit}
use Rattle.tx_model.specs.declared.pass.PassState.TheVariants.{Active}
use Rattle.tx_model.specs.declared.pass.Stop.{Stop}
use Rattle.tx_model.specs.declared.view.Attempt.{Attempt}
use Rattle.tx_model.specs.declared.view.PassView.{PassView}
use Rattle.tx_model.specs.Calls.{GoesOn, OnlyReads, Ended, IsStopped}
use Rattle.tx_model.specs.Made.{Made}
use Rattle.tx_model.specs.Opacity.{ReadFromState}
use Rattle.tx_model.specs.Pass.{IsPass}
use Rattle.tx_model.specs.Words.{addresses}
use Rattle.tx_model.proofs.lemmas.Attempts.{at_work, state_fits}
use Rattle.tx_model.proofs.lemmas.Calls.{ended_after}
use Rattle.tx_model.proofs.lemmas.Stops.{stop_of_read}
use Rattle.tx_heap.specs.Mail.{IsGoodMail, mail_budget}

-- what the attempt had read until then was of one state
pub stopped_reading : {made : Made (List (List KeyNumbers))} {old new : PassView} {before : Attempt} {shows : List Commit → ℕ → List ℕ → Stop → Type 0}
    {stop : Stop} (asked : ℕ) → IsPass IsGoodMail mail_budget made old before → old.state ≡ Active → Ended old new before
    → shows new.history before.start (asked ∷ addresses before.reads) stop → IsStopped shows made.opening old new before stop
stopped_reading {made} {old} {new} {before} asked knows active ended shown =
    let one_state : ReadFromState made.opening old.history before.reads before.start = record {
      happened = (at_work knows active).started;
      agree = (state_fits knows active).reads;
    } in
    (ended, stop_of_read asked one_state ended (omega arith) shown)

-- an attempt that went on to its stop
pub stopped_later : {shows : List Commit → ℕ → List ℕ → Stop → Type 0} {opening : List ℕ} {old mid new : PassView} {before between : Attempt} {stop : Stop}
    → GoesOn old mid before between → IsStopped shows opening mid new between stop → IsStopped shows opening old new before stop
stopped_later goes_on (ended, shown) = (
  ended_after goes_on ended,
  record {
    start = shown.start;
    reads = shown.reads;
    asked = shown.asked;
    no_older = omega (arith, goes_on.start, shown.no_older);
    one_state = shown.one_state;
    shown = shown.shown;
  },
)

pub stopped_after : {shows : List Commit → ℕ → List ℕ → Stop → Type 0} {opening : List ℕ} {old mid new : PassView} {before between : Attempt} {stop : Stop}
    → OnlyReads old mid before between → IsStopped shows opening mid new between stop → IsStopped shows opening old new before stop
stopped_after only = stopped_later only.goes_on
