-- Worked examples. A memory of three words, of which word 1 is raised from 7 to 8, with 4 commits to come after it.
use Rattle.std.specs.Prelude.{ℕ, true, List, [], ◌∷◌, length}
use Rattle.tx_model.specs.declared.history.Commit.{Commit}
use Rattle.tx_model.specs.declared.pass.PassState.TheVariants.{Idle}
use Rattle.tx_model.specs.declared.pass.Receipt.{Receipt}
use Rattle.tx_model.specs.declared.trying.BodyStop.TheVariants.{Worn, Refused}
use Rattle.tx_model.specs.declared.view.Attempt.{Attempt}
use Rattle.tx_model.specs.declared.view.PassView.{PassView}
use Rattle.tx_model.specs.Attempt.{starting_at, commit_of}
use Rattle.tx_uses.specs.declared.raise.RaiseRefusal.TheVariants.{Spent}
use Rattle.tx_uses.specs.Countdown.{CountsDown}
use Rattle.tx_uses.specs.Raise.{at, MayRaise, Raises}
use Rattle.tx_uses.specs.Raised.{IsRaised, Raised, NotRaised}
use Rattle.tx_uses.specs.Reads.{HadBoth}
use Rattle.tx_uses.specs.Apart.{SeenAfter}

abbrev pub before : List ℕ
before = 5 ∷ 7 ∷ 9 ∷ []

abbrev pub after : List ℕ
after = 4 ∷ 8 ∷ 9 ∷ []

-- ---- memories that count down
abbrev pub CountsDownExample : Type 0
CountsDownExample = CountsDown before after × (¬ CountsDown after before)

-- word 0 counts, and there is no word 3
abbrev pub MayRaiseExample : Type 0
MayRaiseExample =
    MayRaise before (2 ∷ []) × (¬ MayRaise before (0 ∷ [])) × (¬ MayRaise before (3 ∷ []))

abbrev pub IsRaisedExample : Type 0
IsRaisedExample = IsRaised 1 before after

-- by two, or with another word
abbrev pub NotRaisedExample : Type 0
NotRaisedExample = (¬ IsRaised 1 before (4 ∷ 9 ∷ 9 ∷ [])) × (¬ IsRaised 1 before (4 ∷ 8 ∷ 0 ∷ []))

-- ---- an attempt, and its commit
abbrev pub attempt : Attempt
attempt =
    record (starting_at 0) { reads = at 0 5 ∷ at 1 7 ∷ []; writes = at 0 4 ∷ at 1 8 ∷ [] }

abbrev pub RaisesExample : Type 0
RaisesExample = Raises 1 attempt

-- an idle pass that has all names
abbrev pub idle : List Commit → List ℕ → PassView
idle history mine =
    record { state = Idle; history = history; front = length history; mine = mine; owned = []; share = [] ∷ [] }

abbrev pub at_first : PassView
at_first = idle [] []

abbrev pub at_last : PassView
at_last = idle (commit_of attempt [] ∷ []) (1 ∷ [])

abbrev pub receipt : Receipt
receipt = record { stamp = 1; wrote = true }

abbrev pub RaisedExample : Type 0
RaisedExample = Raised before 1 at_first at_last receipt

-- the word is read after the raise
abbrev pub SeenExample : Type 0
SeenExample = SeenAfter before 1 at_first at_last (record { receipt = receipt; value = 8 })

-- ---- refusals: no commit is left, the count is 0, the memory has had its one commit
abbrev pub RefusedExample : Type 0
RefusedExample =
    NotRaised (0 ∷ 7 ∷ []) 9 1 at_first at_first (Refused Spent) × NotRaised before 1 1 at_last at_last (Worn 1)

-- no state has word 0 as it was and word 1 as it came to be
abbrev pub HadBothExample : Type 0
HadBothExample =
    HadBoth before at_last.history 0 0 4 1 8 × (¬ HadBoth before at_last.history 0 0 5 1 8)
