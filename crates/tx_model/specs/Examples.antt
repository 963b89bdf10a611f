-- Worked examples. Words 2 and 3 are a region, whose gate is word 0.
use Rattle.std.specs.Prelude.{◌≡◌, ℕ, true, false, List, [], ◌∷◌, length, slice_index, Some, None}
use Rattle.tx_model.specs.declared.gate.Region.{Region}
use Rattle.tx_model.specs.declared.word.Word.{Word}
use Rattle.tx_model.specs.declared.history.Commit.{Commit}
use Rattle.tx_model.specs.declared.pass.PassState.TheVariants.{Idle}
use Rattle.tx_model.specs.declared.view.Attempt.{Attempt}
use Rattle.tx_model.specs.declared.view.Owned.{Owned}
use Rattle.tx_model.specs.declared.view.PassView.{PassView}
use Rattle.tx_model.specs.WordLaws.{word}
use Rattle.tx_model.specs.Memory.{after, words_in, words_from}
use Rattle.tx_model.specs.History.{state_at, IsLegal, HasWriters, IsBeginning, IsGoodHistory}
use Rattle.tx_model.specs.Made.{AreWellFormed}
use Rattle.tx_model.specs.Attempt.{starting_at, gate_value, MayRead, MayWrite, reads_after, commit_of, owned_after, Fits, HoldsOver, MayCommit}
use Rattle.tx_model.specs.Calls.{merged}
use Rattle.tx_model.specs.Opacity.{ReadFromState, ShowsConflict, ShowsOverrun}
use Rattle.tx_model.specs.Pass.{IsWhole, AreStamps, KnowsAll}
use Rattle.tx_model.specs.Shares.{Name, kept_half, given_half, joined, AreJoined, IsEnding, AreNamesApart, AreApartWithin}
use Rattle.tx_model.specs.ShareLaws.{whole}

abbrev pub the_region : Region
the_region = record { gate = 0; base = 2; len = 2 }

abbrev pub the_regions : List Region
the_regions = the_region ∷ []

-- ---- memories
-- two words are written, the others stay
abbrev pub AfterExample : Type 0
AfterExample = after (0 ∷ 5 ∷ 6 ∷ []) (word 2 9 ∷ word 0 1 ∷ []) ≡ 1 ∷ 5 ∷ 9 ∷ []

-- the last of two writes to one address counts
abbrev pub AfterTwiceExample : Type 0
AfterTwiceExample = after (0 ∷ 5 ∷ 6 ∷ []) (word 1 7 ∷ word 1 8 ∷ []) ≡ 0 ∷ 8 ∷ 6 ∷ []

abbrev pub WordsInExample : Type 0
WordsInExample = words_in (1 ∷ 7 ∷ 8 ∷ 9 ∷ 4 ∷ []) the_region ≡ 8 ∷ 9 ∷ []

abbrev pub WordsFromExample : Type 0
WordsFromExample = words_from 2 (5 ∷ 6 ∷ []) ≡ word 2 5 ∷ word 3 6 ∷ []

-- ---- histories: the region is sealed, and then published with other words
abbrev pub sealing : Commit
sealing =
    record { reads = word 0 1 ∷ []; writes = word 0 2 ∷ []; sealed = the_regions; published = []; carry = [] }

abbrev pub publishing : Commit
publishing = record {
  reads = word 0 2 ∷ word 1 7 ∷ [];
  writes = word 0 3 ∷ [];
  sealed = [];
  published = the_regions;
  carry = word 2 5 ∷ word 3 6 ∷ [];
}

abbrev pub open_memory : List ℕ
open_memory = 1 ∷ 7 ∷ 8 ∷ 9 ∷ []

abbrev pub sealed_memory : List ℕ
sealed_memory = 2 ∷ 7 ∷ 8 ∷ 9 ∷ []

abbrev pub packed_memory : List ℕ
packed_memory = 3 ∷ 7 ∷ 5 ∷ 6 ∷ []

abbrev pub two_commits : List Commit
two_commits = sealing ∷ publishing ∷ []

-- the second commit writes its carry too
abbrev pub StatesExample : Type 0
StatesExample =
    (state_at open_memory two_commits 0 ≡ open_memory) × (state_at open_memory two_commits 1 ≡ sealed_memory)
    × (state_at open_memory two_commits 2 ≡ packed_memory)

abbrev pub LegalExample : Type 0
LegalExample = IsLegal open_memory two_commits

-- the second commit read word 0 as it was before the first one
abbrev pub NotLegalExample : Type 0
NotLegalExample = ¬ IsLegal open_memory (sealing ∷ record publishing { reads = word 0 1 ∷ [] } ∷ [])

abbrev pub WritersExample : Type 0
WritersExample = HasWriters two_commits

abbrev pub BeginningExample : Type 0
BeginningExample = IsBeginning (sealing ∷ []) two_commits

abbrev pub NotBeginningExample : Type 0
NotBeginningExample = ¬ IsBeginning (publishing ∷ []) two_commits

-- ---- words that an attempt may read and write
abbrev pub having : List Word → List Word → Attempt
having reads writes = record (starting_at 0) { reads = reads; writes = writes }

-- what the attempt wrote counts before what it read
abbrev pub GateValueExample : Type 0
GateValueExample =
    (gate_value (having (word 0 0 ∷ []) (word 0 1 ∷ [])) 0 ≡ Some 1) × (gate_value (having (word 1 7 ∷ word 0 3 ∷ []) []) 0 ≡ Some 3)
    × (gate_value (having (word 1 7 ∷ []) (word 2 5 ∷ [])) 0 ≡ None)

-- a word that the attempt wrote itself doesn't come to its reads
abbrev pub ReadsAfterExample : Type 0
ReadsAfterExample =
    (reads_after (having (word 0 1 ∷ []) (word 2 5 ∷ [])) 3 9 ≡ word 0 1 ∷ word 3 9 ∷ [])
    × (reads_after (having (word 0 1 ∷ []) (word 2 5 ∷ [])) 2 5 ≡ word 0 1 ∷ [])

-- word 2 is in the region
abbrev pub MayReadExample : Type 0
MayReadExample = MayRead the_regions (having (word 0 1 ∷ []) []) 2

-- word 1 is in no region
abbrev pub MayReadOutsideExample : Type 0
MayReadOutsideExample = MayRead the_regions (having [] []) 1

-- the gate wasn't read
abbrev pub MayNotReadUnseenExample : Type 0
MayNotReadUnseenExample = ¬ MayRead the_regions (having [] []) 2

-- the gate was read as sealed
abbrev pub MayNotReadSealedExample : Type 0
MayNotReadSealedExample = ¬ MayRead the_regions (having (word 0 2 ∷ []) []) 2

-- the attempt publishes the region
abbrev pub MayNotReadPublishedExample : Type 0
MayNotReadPublishedExample =
    ¬ MayRead the_regions (record (having (word 0 2 ∷ []) (word 0 3 ∷ [])) { published = the_regions }) 2

-- the gate, from unused to open
abbrev pub MayOpenExample : Type 0
MayOpenExample = MayWrite the_regions (having (word 0 0 ∷ []) []) 0 1

abbrev pub MayWriteExample : Type 0
MayWriteExample = MayWrite the_regions (having (word 0 1 ∷ []) []) 2 5

-- the attempt has opened the region itself
abbrev pub MayWriteOpenedExample : Type 0
MayWriteOpenedExample = MayWrite the_regions (having (word 0 0 ∷ []) (word 0 1 ∷ [])) 2 5

-- the region is packed
abbrev pub MayNotWriteExample : Type 0
MayNotWriteExample = ¬ MayWrite the_regions (having (word 0 3 ∷ []) []) 2 5

-- ---- regions
abbrev pub WellFormedExample : Type 0
WellFormedExample = AreWellFormed open_memory the_regions

-- word 3 is in both
abbrev pub OverlapExample : Type 0
OverlapExample = ¬ AreWellFormed open_memory (the_region ∷ record { gate = 1; base = 3; len = 1 } ∷ [])

-- ---- commits
-- a region that was sealed with the words 8 and 9, and has been given other words
abbrev pub owned_region : Owned
owned_region = record { region = the_region; at_sealing = 8 ∷ 9 ∷ []; now = 5 ∷ 6 ∷ [] }

abbrev pub attempt_to_publish : Attempt
attempt_to_publish =
    record (having (word 0 2 ∷ word 1 7 ∷ []) (word 0 3 ∷ [])) { start = 1; published = the_regions }

-- in the memory the region's words stay those of the sealing
abbrev pub FitsExample : Type 0
FitsExample = Fits sealed_memory attempt_to_publish (owned_region ∷ [])

abbrev pub FitsNotExample : Type 0
FitsNotExample = ¬ Fits open_memory attempt_to_publish (owned_region ∷ [])

abbrev pub CommitExample : Type 0
CommitExample = commit_of attempt_to_publish (owned_region ∷ []) ≡ publishing

abbrev pub OwnedAfterSealExample : Type 0
OwnedAfterSealExample =
    owned_after sealed_memory (record (having (word 0 1 ∷ []) (word 0 2 ∷ [])) { sealed = the_regions }) [] ≡ record owned_region { now = 8 ∷ 9 ∷ [] } ∷ []

abbrev pub OwnedAfterPublishExample : Type 0
OwnedAfterPublishExample = owned_after packed_memory attempt_to_publish (owned_region ∷ []) ≡ []

-- a sense in which word 0 of three counts down
abbrev pub HasThree : List ℕ → Type 0
HasThree memory = length memory ≡ 3

abbrev pub left_over : List ℕ → ℕ
left_over memory = slice_index memory 0

abbrev pub MayCommitExample : Type 0
MayCommitExample = MayCommit HasThree left_over (having (word 0 5 ∷ []) (word 0 4 ∷ [])) []

-- an attempt that didn't read word 0 knows nothing of it
abbrev pub MayNotCommitExample : Type 0
MayNotCommitExample = ¬ MayCommit HasThree left_over (having [] (word 0 4 ∷ [])) []

-- the word that was read, and the one that was written, but no other
abbrev pub one_read_one_written : Attempt
one_read_one_written = having (word 0 5 ∷ []) (word 1 7 ∷ [])

abbrev pub HoldsOverExample : Type 0
HoldsOverExample = HoldsOver HasThree one_read_one_written [] (λ memory. (slice_index memory 0 ≡ 5) × (slice_index memory 1 ≡ 7))

abbrev pub HoldsNotOverExample : Type 0
HoldsNotOverExample = ¬ HoldsOver HasThree one_read_one_written [] (λ memory. slice_index memory 2 ≡ 9)

abbrev pub counting : Commit
counting = commit_of (having (word 0 5 ∷ []) (word 0 4 ∷ [])) []

abbrev pub GoodHistoryExample : Type 0
GoodHistoryExample = IsGoodHistory HasThree left_over (5 ∷ 0 ∷ 0 ∷ []) (counting ∷ [])

-- ---- reads and stops
-- the words 5 and 6 came with the second commit
abbrev pub ReadFromStateExample : Type 0
ReadFromStateExample = ReadFromState open_memory two_commits (word 0 3 ∷ word 2 5 ∷ []) 2

-- no state has both these words
abbrev pub NotOneStateExample : Type 0
NotOneStateExample = (k : ℕ) → ¬ ReadFromState open_memory two_commits (word 0 2 ∷ word 2 5 ∷ []) k

-- commit 1 wrote address 56, which has the place of address 1 among 64
abbrev pub writing : ℕ → Commit
writing addr = record { reads = []; writes = word addr 5 ∷ []; sealed = []; published = []; carry = [] }

abbrev pub ConflictExample : Type 0
ConflictExample = ShowsConflict 64 (writing 56 ∷ []) 0 (1 ∷ []) 1

-- address 2 has another place
abbrev pub NoConflictExample : Type 0
NoConflictExample = ¬ ShowsConflict 64 (writing 56 ∷ []) 0 (2 ∷ []) 1

-- in a ring of one entry, commit 1 is gone after commit 2
abbrev pub OverrunExample : Type 0
OverrunExample = ShowsOverrun 1 two_commits 0 1 2

abbrev pub NoOverrunExample : Type 0
NoOverrunExample = ¬ ShowsOverrun 2 two_commits 0 1 2

-- ---- passes
-- the parts of a whole that was split, and whose kept half was split again
abbrev pub first : List Name
first = kept_half (kept_half whole)

abbrev pub second : List Name
second = given_half (kept_half whole)

abbrev pub third : List Name
third = given_half whole

-- they are whole again, in whatever order they are joined
abbrev pub AnyOrderExample : Type 0
AnyOrderExample =
    (joined (joined first second) third ≡ whole) × (joined third (joined second first) ≡ whole) × (joined (joined first third) second ≡ whole)
    × (joined first (joined second third) ≡ whole)

-- the first is half of a half, and the third is the other half of the whole
abbrev pub AreJoinedExample : Type 0
AreJoinedExample = AreJoined (joined first third)

-- these two are halves of the whole
abbrev pub NotJoinedExample : Type 0
NotJoinedExample = ¬ AreJoined ((false ∷ []) ∷ (true ∷ []) ∷ [])

-- a name is the ending of each of its halves
abbrev pub EndingExample : Type 0
EndingExample = IsEnding (false ∷ []) (true ∷ false ∷ [])

abbrev pub NamesApartExample : Type 0
NamesApartExample = AreNamesApart (true ∷ []) (true ∷ false ∷ [])

-- a share with a name that is the ending of another loses one when it is split and joined again
abbrev pub overlapping : List Name
overlapping = [] ∷ (false ∷ []) ∷ []

abbrev pub LostNameExample : Type 0
LostNameExample =
    AreJoined overlapping × (¬ AreApartWithin overlapping) × (joined (kept_half overlapping) (given_half overlapping) ≡ whole)

abbrev pub MergedExample : Type 0
MergedExample = merged (1 ∷ 4 ∷ []) (2 ∷ 3 ∷ []) ≡ 1 ∷ 2 ∷ 3 ∷ 4 ∷ []

abbrev pub StampsExample : Type 0
StampsExample = AreStamps 4 (1 ∷ 4 ∷ [])

abbrev pub NotStampsExample : Type 0
NotStampsExample = (¬ AreStamps 4 (4 ∷ 1 ∷ [])) × (¬ AreStamps 3 (1 ∷ 4 ∷ []))

-- the pass that made both commits
abbrev pub the_pass : PassView
the_pass = record {
  state = Idle;
  history = two_commits;
  front = 2;
  mine = 1 ∷ 2 ∷ [];
  owned = [];
  share = whole;
}

abbrev pub WholeExample : Type 0
WholeExample = IsWhole the_pass × KnowsAll the_pass

-- commit 2 is of another pass
abbrev pub NotAllExample : Type 0
NotAllExample =
    ¬ KnowsAll (record the_pass { front = 1; mine = 1 ∷ []; share = kept_half whole })
