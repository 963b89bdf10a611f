-- What shows a stop shows it in a longer history too, and has a commit after the start.
use Rattle.std.proofs.Common.{ℕ, ◌-◌, ◌<◌, ◌≤◌, List, ◌∷◌, length, arith}
use Rattle.std.proofs.lemmas.Option.{slice_get_within}
use Rattle.tx_model.specs.declared.history.Commit.{Commit}
use Rattle.tx_model.specs.declared.pass.Stop.{Stop}
use Rattle.tx_model.specs.declared.view.Attempt.{Attempt}
use Rattle.tx_model.specs.declared.view.PassView.{PassView}
use Rattle.tx_model.specs.Words.{addresses}
use Rattle.tx_model.specs.History.{IsBeginning}
use Rattle.tx_model.specs.Calls.{Ended}
use Rattle.tx_model.specs.Opacity.{ReadFromState, ShowsConflict, ShowsOverrun, IsShown}
use Rattle.tx_model.proofs.lemmas.Histories.{beginning_length, entry_stays}
use Rattle.tx_model.proofs.lemmas.Calls.{read_stays}

module _ {history longer : List Commit} (start : ℕ) (read : List ℕ) (beginning : IsBeginning history longer) where
  pub conflict_stays : (bits stamp : ℕ) → ShowsConflict bits history start read stamp → ShowsConflict bits longer start read stamp
  conflict_stays bits stamp shown =
      record {
        later = shown.later;
        commit = shown.commit;
        there = entry_stays history longer (stamp - 1) shown.commit beginning shown.there;
        shared = shown.shared;
      }

  pub overrun_stays : (ring stamp seen : ℕ) → ShowsOverrun ring history start stamp seen → ShowsOverrun ring longer start stamp seen
  overrun_stays ring stamp seen shown =
      record { later = shown.later; gone = shown.gone; happened = omega (arith, shown.happened, beginning_length history longer beginning) }

pub conflict_later : (bits : ℕ) (history : List Commit) (start : ℕ) (read : List ℕ) (stamp : ℕ) → ShowsConflict bits history start read stamp
    → start < length history
conflict_later bits history start read stamp shown =
    let within = slice_get_within history (stamp - 1) shown.commit shown.there in omega (arith, shown.later, within)

pub overrun_later : (ring : ℕ) (history : List Commit) (start stamp seen : ℕ) → ShowsOverrun ring history start stamp seen → start < length history
overrun_later ring history start stamp seen shown = omega (arith, shown.later, shown.gone, shown.happened)

-- a read that stopped: what the attempt had read was of one state
pub stop_of_read : {shows : List Commit → ℕ → List ℕ → Stop → Type 0} {opening : List ℕ} {old new : PassView} {attempt : Attempt} {since : ℕ}
    (asked : ℕ) {stop : Stop}
    → ReadFromState opening old.history attempt.reads attempt.start → Ended old new attempt → since ≤ attempt.start
    → shows new.history attempt.start (asked ∷ addresses attempt.reads) stop → IsShown shows opening new.history since stop
stop_of_read {attempt = attempt} asked one_state ended fresh shown =
    record {
      start = attempt.start;
      reads = attempt.reads;
      asked = asked;
      no_older = fresh;
      one_state = read_stays ended.later.history one_state;
      shown = shown;
    }
