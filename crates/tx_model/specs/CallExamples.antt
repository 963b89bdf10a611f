-- Worked examples of what a memory is made with, what holds of a pass, and what the calls leave of it.
-- The pass has sealed the region, and then publishes it.
use Rattle.std.specs.Prelude.{◌≡◌, ℕ, ◌-◌, true, false, List, [], ◌∷◌, length, drop, slice_index, replicate, Contains, Option, Some, None}
use Rattle.tx_model.specs.declared.gate.Region.{Region}
use Rattle.tx_model.specs.declared.history.Commit.{Commit}
use Rattle.tx_model.specs.declared.pass.PassState.TheVariants.{Idle, Active}
use Rattle.tx_model.specs.declared.pass.Stop.{Stop}
use Rattle.tx_model.specs.declared.pass.Stop.TheVariants.{Met, Overrun}
use Rattle.tx_model.specs.declared.pass.CommitError.TheVariants as commit_error
use Rattle.tx_model.specs.declared.body.BodyStep.TheVariants as body_step
use Rattle.tx_model.specs.declared.trying.BodyStop.TheVariants as body_stop
use Rattle.tx_model.specs.declared.trying.OnceStop.TheVariants.{Again, Over}
use Rattle.tx_model.specs.declared.view.Attempt.{Attempt}
use Rattle.tx_model.specs.declared.view.PassView.{PassView}
use Rattle.tx_model.specs.WordLaws.{word}
use Rattle.tx_model.specs.Words.{value_of}
use Rattle.tx_model.specs.Memory.{words_from}
use Rattle.tx_model.specs.Made.{Made, IsMade}
use Rattle.tx_model.specs.Attempt.{starting_at}
use Rattle.tx_model.specs.Calls.{Began, GoesOnWith, OnlyReads, Read, Ended, Committed, WornOut, Refused, IsFull, with_write, left_of, right_of, Joined}
use Rattle.tx_model.specs.Opacity.{ShowsConflict, ShowsOverrun, StaysShown, HasLaterCommit}
use Rattle.tx_model.specs.Tries.{ReadyToCommit, StepStopped, Done, GaveUp, HadNoMore, NotDone, OnceNotDone}
use Rattle.tx_model.specs.Examples.{the_regions, open_memory, sealing, having, owned_region, attempt_to_publish, third, the_pass}
use Rattle.tx_model.specs.ShareLaws.{whole}

-- ---- what always holds
-- a sense in which a memory keeps its number of words, and the gate goes up to 3
abbrev pub AnyRegions : Unit {0} → List Region → Type 0
AnyRegions sense regions = Unit {0}

abbrev pub IsAsLong : Unit {0} → List ℕ → List ℕ → Type 0
IsAsLong sense opening memory = length memory ≡ length opening

abbrev pub gate_left : Unit {0} → List ℕ → ℕ
gate_left sense memory = 3 - slice_index memory 0

abbrev pub the_made : Made (Unit {0})
the_made = record { sense = tt; opening = open_memory; regions = the_regions; life = 9 }

abbrev pub MadeExample : Type 0
MadeExample = IsMade AnyRegions IsAsLong the_made

-- the pass owns the region, in an attempt to publish it
abbrev pub the_owner : PassView
the_owner = record {
  state = Active;
  history = sealing ∷ [];
  front = 1;
  mine = 1 ∷ [];
  owned = owned_region ∷ [];
  share = whole;
}

-- and before the attempt
abbrev pub idle_owner : PassView
idle_owner = record the_owner { state = Idle }

-- ---- calls
abbrev pub BeganExample : Type 0
BeganExample = Began idle_owner the_owner (starting_at 1)

-- word 1 is 7
abbrev pub seven_read : Attempt
seven_read = record (starting_at 1) { reads = word 1 7 ∷ [] }

abbrev pub ReadExample : Type 0
ReadExample = Read open_memory the_owner the_owner (starting_at 1) seven_read 1 7

-- nothing was read but word 1, and nothing written
abbrev pub GoesOnWithExample : Type 0
GoesOnWithExample = GoesOnWith the_owner the_owner (starting_at 1) seven_read (word 1 7 ∷ []) []

abbrev pub OnlyReadsExample : Type 0
OnlyReadsExample = OnlyReads the_owner the_owner (starting_at 1) seven_read

abbrev pub NotOnlyReadsExample : Type 0
NotOnlyReadsExample = ¬ OnlyReads the_owner the_owner (starting_at 1) attempt_to_publish

abbrev pub WriteExample : Type 0
WriteExample = with_write (having [] (word 0 3 ∷ [])) 1 8 ≡ having [] (word 0 3 ∷ word 1 8 ∷ [])

-- an attempt that wrote addresses 0 to 255 may not write address 256, but address 5 again
abbrev pub many_written : Attempt
many_written = having [] (words_from 0 (replicate 256 7))

abbrev pub FullExample : Type 0
FullExample = IsFull many_written 256 × (¬ IsFull many_written 5)

abbrev pub EndedExample : Type 0
EndedExample = Ended the_owner idle_owner seven_read

-- the region is published by commit 2
abbrev pub CommittedExample : Type 0
CommittedExample =
    Committed open_memory the_owner the_pass attempt_to_publish (record { stamp = 2; wrote = true })

-- an attempt that wrote nothing makes no commit
abbrev pub OnlyReadExample : Type 0
OnlyReadExample =
    Committed open_memory the_owner idle_owner seven_read (record { stamp = 1; wrote = false })

-- the memory had one commit, and it is taken
abbrev pub WornOutExample : Type 0
WornOutExample = WornOut 1 the_owner idle_owner attempt_to_publish 1

-- stops are shown with signatures of 64 places and a ring of one entry
abbrev pub shows_stop : List Commit → ℕ → List ℕ → Stop → Type 0
shows_stop history start read (Met stamp) = ShowsConflict 64 history start read stamp
shows_stop history start read (Overrun stamp seen) = ShowsOverrun 1 history start stamp seen

-- what they show stays shown, and a commit comes after the start
abbrev pub ShowsExample : Type 0
ShowsExample = StaysShown shows_stop × HasLaterCommit shows_stop

-- a commit of another pass that raises word 1
abbrev pub raising : Commit
raising =
    record { reads = word 1 7 ∷ []; writes = word 1 8 ∷ []; sealed = []; published = []; carry = [] }

-- a pass with a third of the names, in an attempt, and after it has learned of that commit
abbrev pub one_of_three : PassView
one_of_three = record the_owner { share = third }

abbrev pub overtaken : PassView
overtaken = record one_of_three { state = Idle; history = sealing ∷ raising ∷ [] }

-- commit 2 wrote what the attempt had read
abbrev pub StoppedCommitExample : Type 0
StoppedCommitExample =
    Refused shows_stop 9 one_of_three overtaken seven_read (commit_error.Stopped (Met 2))

abbrev pub WornCommitExample : Type 0
WornCommitExample =
    Refused shows_stop 1 the_owner idle_owner attempt_to_publish (commit_error.Worn 1)

-- the pass given by a split knows as much, and has nothing
abbrev pub SplitPassExample : Type 0
SplitPassExample =
    right_of the_pass ≡ record the_pass { mine = []; share = third }

-- joined again, they are the pass that was split
abbrev pub JoinedPassExample : Type 0
JoinedPassExample = Joined (left_of the_pass) (right_of the_pass) the_pass

-- ---- trying again
-- what a body did that publishes the region, or refuses with what it read in word 1
abbrev pub Publishes : Option ℕ → Attempt → Type 0
Publishes None attempt = attempt.published ≡ the_regions
Publishes (Some refusal) attempt = value_of attempt.reads 1 ≡ Some refusal

-- the region is as it was sealed, with the gate at 2
abbrev pub ReadyExample : Type 0
ReadyExample =
    ReadyToCommit IsAsLong gate_left the_made the_owner the_owner (starting_at 1) attempt_to_publish

abbrev pub DoneExample : Type 0
DoneExample =
    Done Publishes open_memory idle_owner the_pass (record { stamp = 2; wrote = true })

abbrev pub GaveUpExample : Type 0
GaveUpExample = GaveUp Publishes open_memory idle_owner idle_owner 7

abbrev pub HadNoMoreExample : Type 0
HadNoMoreExample = HadNoMore Publishes open_memory 1 idle_owner idle_owner 1

-- commit 2 stopped the attempt at word 1
abbrev pub StepStoppedExample : Type 0
StepStoppedExample =
    StepStopped shows_stop Publishes open_memory one_of_three overtaken (starting_at 1) (starting_at 1) (body_step.Stopped (Met 2))

-- a stop that is shown only where word 9 was read too, which the memory doesn't have
abbrev pub shows_past_end : List Commit → ℕ → List ℕ → Stop → Type 0
shows_past_end history start read stop = shows_stop history start read stop × Contains (drop 1 read) 9

-- the addresses 1 and 9 would show it, and no attempt has read them from one state
abbrev pub ReadPastEndExample : Type 0
ReadPastEndExample =
    shows_past_end overtaken.history 1 (1 ∷ 9 ∷ []) (Met 2)
    × (¬ StepStopped shows_past_end Publishes open_memory one_of_three overtaken (starting_at 1) (starting_at 1) (body_step.Stopped (Met 2)))

-- the body refuses with the 7 that it read there
abbrev pub StepRefusedExample : Type 0
StepRefusedExample =
    StepStopped shows_stop Publishes open_memory the_owner the_owner (starting_at 1) seven_read (body_step.Refused 7)

abbrev pub NotDoneExample : Type 0
NotDoneExample =
    NotDone Publishes open_memory 1 idle_owner idle_owner (body_stop.Refused 7) × NotDone Publishes open_memory 1 idle_owner idle_owner (body_stop.Worn 1)

-- after the stop there may be another try, and after the refusal there is none
abbrev pub OnceNotDoneExample : Type 0
OnceNotDoneExample =
    OnceNotDone Publishes open_memory 1 (record one_of_three { state = Idle }) overtaken Again
    × OnceNotDone Publishes open_memory 1 idle_owner idle_owner (Over (body_stop.Refused 7))
