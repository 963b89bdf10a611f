-- What an attempt read from, and what shows that it had to stop.
use Rattle.std.specs.Prelude.{◌≡◌, ℕ, ◌+◌, ◌-◌, ◌<◌, ◌≤◌, List, ◌∷◌, length, Some, slice_get}
use Rattle.ring_sig.specs.Signature.{Meet}
use Rattle.tx_model.specs.declared.pass.Stop.{Stop}
use Rattle.tx_model.specs.declared.word.Word.{Word}
use Rattle.tx_model.specs.declared.history.Commit.{Commit}
use Rattle.tx_model.specs.Words.{addresses}
use Rattle.tx_model.specs.Memory.{Agrees}
use Rattle.tx_model.specs.History.{state_at, IsBeginning}

-- the words are those of the state after the first k commits
pub record ReadFromState (opening : List ℕ) (history : List Commit) (reads : List Word) (k : ℕ) : Type 0 where
  pub happened : k ≤ length history
  pub agree : Agrees reads (state_at opening history k)

-- a commit after the start wrote an address whose place is that of an address read
pub record ShowsConflict (bits : ℕ) (history : List Commit) (start : ℕ) (read : List ℕ) (stamp : ℕ) : Type 0 where
  pub later : start < stamp
  pub commit : Commit
  pub there : slice_get history (stamp - 1) ≡ Some commit
  pub shared : Meet bits (addresses commit.writes) read

-- so many commits have happened that a commit after the start has left the ring
pub record ShowsOverrun (ring : ℕ) (history : List Commit) (start stamp seen : ℕ) : Type 0 where
  pub later : start < stamp
  pub gone : stamp + ring ≤ seen
  pub happened : seen ≤ length history

-- the stop of a read: the words that an attempt had read, from one state, and the address asked for show it
pub record IsShown (shows : List Commit → ℕ → List ℕ → Stop → Type 0) (opening : List ℕ) (history : List Commit) (since : ℕ) (stop : Stop) : Type 0 where
  pub start : ℕ
  pub reads : List Word
  pub asked : ℕ
  pub no_older : since ≤ start
  pub one_state : ReadFromState opening history reads start
  pub shown : shows history start (asked ∷ addresses reads) stop

-- what is shown stays shown in a longer history
abbrev pub StaysShown : (List Commit → ℕ → List ℕ → Stop → Type 0) → Type 0
StaysShown shows =
    (history longer : List Commit) (start : ℕ) (read : List ℕ) (stop : Stop) → IsBeginning history longer → shows history start read stop
    → shows longer start read stop

-- what is shown has a commit after the start
abbrev pub HasLaterCommit : (List Commit → ℕ → List ℕ → Stop → Type 0) → Type 0
HasLaterCommit shows =
    (history : List Commit) (start : ℕ) (read : List ℕ) (stop : Stop) → shows history start read stop → start < length history
