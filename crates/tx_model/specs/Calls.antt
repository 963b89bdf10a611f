-- What the calls of a memory leave of a pass.
use Rattle.std.specs.Prelude.{◌≡◌, ◌≢◌, ◌⊎◌, ℕ, ◌-◌, ◌<◌, ◌≤◌, ◌++◌, true, false, List, [], ◌∷◌, length, nat_lt, if◌then◌else◌, Some, None, slice_get, max}
use Rattle.tx_model.specs.declared.pass.PassState.TheVariants.{Idle, Active}
use Rattle.tx_model.specs.declared.pass.Receipt.{Receipt}
use Rattle.tx_model.specs.declared.pass.Stop.{Stop}
use Rattle.tx_model.specs.declared.pass.TheConstants.{MAX_WRITES}
use Rattle.tx_model.specs.declared.pass.CommitError.{CommitError}
use Rattle.tx_model.specs.declared.pass.CommitError.TheVariants.{Stopped, Worn}
use Rattle.tx_model.specs.declared.history.Commit.{Commit}
use Rattle.tx_model.specs.declared.view.Attempt.{Attempt}
use Rattle.tx_model.specs.declared.view.PassView.{PassView}
use Rattle.tx_model.specs.declared.word.Word.{Word}
use Rattle.tx_model.specs.Words.{value_of, put, addresses}
use Rattle.tx_model.specs.History.{state_at, IsBeginning}
use Rattle.tx_model.specs.Shares.{joined, kept_half, given_half}
use Rattle.tx_model.specs.Attempt.{starting_at, reads_after, commit_of, owned_after, Fits}
use Rattle.tx_model.specs.Opacity.{ReadFromState, IsShown}

-- the pass has what it had, and knows no less
pub record IsLater (old new : PassView) : Type 0 where
  pub history : IsBeginning old.history new.history
  pub front : old.front ≤ new.front
  pub mine : new.mine ≡ old.mine
  pub owned : new.owned ≡ old.owned
  pub share : new.share ≡ old.share

-- an attempt began, with all that the pass knew
pub record Began (old new : PassView) (attempt : Attempt) : Type 0 where
  pub active : new.state ≡ Active
  pub later : IsLater old new
  pub fresh : old.front ≤ attempt.start
  pub empty : attempt ≡ starting_at attempt.start

-- the attempt goes on
pub record GoesOn (old new : PassView) (before now : Attempt) : Type 0 where
  pub active : new.state ≡ Active
  pub later : IsLater old new
  pub start : before.start ≤ now.start

-- the attempt goes on with these reads and these writes, and sealed and published no more
pub record GoesOnWith (old new : PassView) (before now : Attempt) (read wrote : List Word) : Type 0 where
  pub goes_on : GoesOn old new before now
  pub reads : now.reads ≡ read
  pub writes : now.writes ≡ wrote
  pub sealed : now.sealed ≡ before.sealed
  pub published : now.published ≡ before.published

-- the attempt read more, and did nothing else
pub record OnlyReads (old new : PassView) (before now : Attempt) : Type 0 where
  pub goes_on : GoesOn old new before now
  pub reads : IsBeginning before.reads now.reads
  pub writes : now.writes ≡ before.writes
  pub sealed : now.sealed ≡ before.sealed
  pub published : now.published ≡ before.published

-- the attempt read a value at an address
pub record Read (opening : List ℕ) (old new : PassView) (before now : Attempt) (addr value : ℕ) : Type 0 where
  pub goes_on : GoesOn old new before now
  pub written : (last : ℕ) → value_of before.writes addr ≡ Some last → value ≡ last
  pub reads : now.reads ≡ reads_after before addr value
  pub writes : now.writes ≡ before.writes
  pub sealed : now.sealed ≡ before.sealed
  pub published : now.published ≡ before.published
  pub one_state : ReadFromState opening new.history now.reads now.start

-- the attempt with one more write
abbrev pub with_write : Attempt → ℕ → ℕ → Attempt
with_write attempt addr value =
    record { start = attempt.start; reads = attempt.reads; writes = put attempt.writes addr value; sealed = attempt.sealed; published = attempt.published }

-- the attempt is over, and the pass has no further commit
pub record Ended (old new : PassView) (before : Attempt) : Type 0 where
  pub idle : new.state ≡ Idle
  pub later : IsLater old new
  pub front : before.start ≤ new.front

-- a stop ended the attempt, and is shown
abbrev pub IsStopped : (List Commit → ℕ → List ℕ → Stop → Type 0) → List ℕ → PassView → PassView → Attempt → Stop → Type 0
IsStopped shows opening old new before stop = Ended old new before × IsShown shows opening new.history before.start stop

-- the attempt is a commit of the history, complete, after all that the pass knew
pub record Wrote (opening : List ℕ) (old new : PassView) (attempt : Attempt) (stamp : ℕ) : Type 0 where
  pub history : IsBeginning old.history new.history
  pub there : slice_get new.history (stamp - 1) ≡ Some (commit_of attempt old.owned)
  -- the state before it is one that the attempt may have read from
  pub fits : Fits (state_at opening new.history (stamp - 1)) attempt old.owned
  pub later : length old.history < stamp
  pub after_start : attempt.start < stamp
  pub complete : stamp ≤ new.front
  pub front : old.front ≤ new.front
  pub mine : new.mine ≡ old.mine ++ stamp ∷ []
  pub owned : new.owned ≡ owned_after (state_at opening new.history stamp) attempt old.owned
  pub share : new.share ≡ old.share

-- the attempt wrote nothing, and read from that state
pub record OnlyRead (opening : List ℕ) (old new : PassView) (attempt : Attempt) (stamp : ℕ) : Type 0 where
  pub later : IsLater old new
  pub from_state : ReadFromState opening new.history attempt.reads stamp
  pub no_older : attempt.start ≤ stamp
  pub front : stamp ≤ new.front

-- what a receipt says: whether the attempt wrote, and then the number of its commit, else of the state that it read from
abbrev pub Received : List ℕ → PassView → PassView → Attempt → Receipt → Type 0
Received opening old new attempt receipt =
    ((receipt.wrote ≡ true) × (attempt.writes ≢ []) × Wrote opening old new attempt receipt.stamp)
    ⊎ ((receipt.wrote ≡ false) × (attempt.writes ≡ []) × OnlyRead opening old new attempt receipt.stamp)

-- the attempt was committed
pub record Committed (opening : List ℕ) (old new : PassView) (attempt : Attempt) (receipt : Receipt) : Type 0 where
  pub idle : new.state ≡ Idle
  pub received : Received opening old new attempt receipt

-- the attempt would be a commit past the last one
pub record WornOut (life : ℕ) (old new : PassView) (attempt : Attempt) (index : ℕ) : Type 0 where
  pub ended : Ended old new attempt
  pub wrote : attempt.writes ≢ []
  pub last : index ≡ life
  pub full : length new.history ≡ life

-- why a commit was refused
abbrev pub Refused : (List Commit → ℕ → List ℕ → Stop → Type 0) → ℕ → PassView → PassView → Attempt → CommitError → Type 0
Refused shows life old new attempt (Stopped stop) = Ended old new attempt × shows new.history attempt.start (addresses attempt.reads) stop
Refused shows life old new attempt (Worn index) = WornOut life old new attempt index

-- a write is refused exactly where the address is new and the most addresses are written
abbrev pub IsFull : Attempt → ℕ → Type 0
IsFull attempt addr = (value_of attempt.writes addr ≡ None) × (length attempt.writes ≡ MAX_WRITES)

-- a pass that was split, and the one that it gave
abbrev pub left_of : PassView → PassView
left_of view = record { state = view.state; history = view.history; front = view.front; mine = view.mine; owned = view.owned; share = kept_half view.share }

abbrev pub right_of : PassView → PassView
right_of view = record { state = Idle; history = view.history; front = view.front; mine = []; owned = []; share = given_half view.share }

-- the numbers of both, rising
abbrev pub placed : ℕ → List ℕ → List ℕ
placed stamp [] = stamp ∷ []
placed stamp (first ∷ stamps) = if nat_lt stamp first then stamp ∷ first ∷ stamps else first ∷ placed stamp stamps

abbrev pub merged : List ℕ → List ℕ → List ℕ
merged stamps [] = stamps
merged stamps (stamp ∷ others) = merged (placed stamp stamps) others

-- two passes became one
pub record Joined (old other new : PassView) : Type 0 where
  pub idle : new.state ≡ Idle
  pub history : IsBeginning old.history new.history
  pub other_history : IsBeginning other.history new.history
  pub no_longer : (new.history ≡ old.history) ⊎ (new.history ≡ other.history)
  pub front : new.front ≡ max old.front other.front
  pub mine : new.mine ≡ merged old.mine other.mine
  pub owned : new.owned ≡ old.owned ++ other.owned
  pub share : new.share ≡ joined old.share other.share
