-- Worked examples. A memory of four words, whose word 1 two commits raised from 3 to 5.
-- After them an attempt writes 9 to word 2, which was 6.
use Rattle.std.specs.Prelude.{◌≡◌, ℕ, ◌+◌, ◌-◌, List, [], ◌∷◌, slice_index, Option, Some, None}
use mathlib.Core.Option.{some, none}
use Rattle.atomic_table.specs.Table.{Step}
use Rattle.tx_model.specs.declared.gate.Region.{Region}
use Rattle.tx_model.specs.declared.history.Commit.{Commit}
use Rattle.tx_model.specs.declared.word.Word.{Word}
use Rattle.tx_model.specs.declared.pass.PassState.TheVariants.{Idle}
use Rattle.tx_model.specs.declared.view.PassView.{PassView}
use Rattle.tx_model.specs.WordLaws.{word}
use Rattle.tx_model.specs.Made.{Made}
use Rattle.tx_model.specs.Attempt.{starting_at}
use Rattle.tx_model.specs.Shares.{Name, kept_half, given_half}
use Rattle.tx_model.specs.ShareLaws.{whole}
use Rattle.turn_memory.specs.declared.table.About.{About}
use Rattle.turn_memory.specs.declared.pass.TurnPass.{TurnPass}
use Rattle.turn_memory.specs.Heap.{HeapView, words_of, value_in, written, read, resting}
use Rattle.turn_memory.specs.Lock.{knowing, attempt_on, both_passes, active_with, NoneSealed, IsHistory, IsPlain, IsSeat, HoldsLast, IsFree, IsTaken, IsTable, Takes, Looks, Releases, Publishes, MayRelease, MayPublish, Sat, made_of, made_with}
use Rattle.turn_memory.specs.TurnPass.{attempt_of, IsOpen, IsResting, IsAtWork}

abbrev pub opening : List ℕ
opening = 0 ∷ 3 ∷ 6 ∷ 8 ∷ []

abbrev pub writing : List Word → Commit
writing writes = record { reads = []; writes = writes; sealed = []; published = []; carry = [] }

abbrev pub one_commit : List Commit
one_commit = writing (word 1 4 ∷ []) ∷ []

abbrev pub two_commits : List Commit
two_commits = writing (word 1 4 ∷ []) ∷ writing (word 1 5 ∷ []) ∷ []

abbrev pub three_commits : List Commit
three_commits =
    writing (word 1 4 ∷ []) ∷ writing (word 1 5 ∷ []) ∷ writing (word 2 9 ∷ []) ∷ []

-- ---- heaps
abbrev pub resting_heap : HeapView
resting_heap = resting (0 ∷ 5 ∷ 6 ∷ 8 ∷ []) 2

abbrev pub open_heap : HeapView
open_heap = record { words = 0 ∷ 5 ∷ 6 ∷ 8 ∷ []; commits = 2; writes = word 2 9 ∷ []; reads = [] }

abbrev pub WrittenExample : Type 0
WrittenExample = written resting_heap 2 9 ≡ open_heap

-- the words stay as they were before the attempt, and an address is written once
abbrev pub WrittenAgainExample : Type 0
WrittenAgainExample = written open_heap 2 7 ≡ record open_heap { writes = word 2 7 ∷ [] }

abbrev pub WordsExample : Type 0
WordsExample = words_of open_heap ≡ 0 ∷ 5 ∷ 9 ∷ 8 ∷ []

-- one that it wrote, and one that it didn't
abbrev pub ValuesExample : Type 0
ValuesExample = (value_in open_heap 2 ≡ 9) × (value_in open_heap 1 ≡ 5)

-- a word that the attempt wrote itself doesn't come to its reads
abbrev pub ReadExample : Type 0
ReadExample = (read open_heap 1 ≡ record open_heap { reads = word 1 5 ∷ [] }) × (read open_heap 2 ≡ open_heap)

abbrev pub HoldsLastExample : Type 0
HoldsLastExample = HoldsLast opening two_commits resting_heap × (¬ HoldsLast opening one_commit resting_heap)

abbrev pub AttemptOnExample : Type 0
AttemptOnExample =
    attempt_on two_commits open_heap ≡ record { start = 2; reads = []; writes = word 2 9 ∷ []; sealed = []; published = [] }

-- ---- passes
abbrev pub idle : List Commit → ℕ → List ℕ → List Name → PassView
idle history front mine share =
    record { state = Idle; history = history; front = front; mine = mine; owned = []; share = share }

-- the pass that was split, and another one that came of it
abbrev pub kept : List Name
kept = kept_half whole

abbrev pub given : List Name
given = given_half whole

-- each made one of the commits, and the one hasn't learned of the other's
abbrev pub BothPassesExample : Type 0
BothPassesExample =
    both_passes (idle one_commit 1 (1 ∷ []) kept) (idle two_commits 2 (2 ∷ []) given) ≡ idle two_commits 2 (1 ∷ 2 ∷ []) whole

abbrev pub PlainExample : Type 0
PlainExample = IsPlain (idle two_commits 2 (2 ∷ []) kept)

-- commit 2 isn't known to be complete
abbrev pub NotPlainExample : Type 0
NotPlainExample = ¬ IsPlain (idle two_commits 1 [] kept)

-- ---- the rule
abbrev pub the_region : Region
the_region = record { gate = 0; base = 3; len = 1 }

-- 1 is open, and 2 is sealed
abbrev pub NoneSealedExample : Type 0
NoneSealedExample = NoneSealed (the_region ∷ []) (1 ∷ 5 ∷ 6 ∷ 8 ∷ []) × (¬ NoneSealed (the_region ∷ []) (2 ∷ 5 ∷ 6 ∷ 8 ∷ []))

abbrev pub AnySense : Type 0
AnySense = Unit {0}

-- a pass that is idle may know of one commit alone
abbrev pub SeatExample : Type 0
SeatExample = (about : About AnySense) → IsSeat about two_commits (knowing about (idle one_commit 1 [] kept))

-- and one in an attempt knows all
abbrev pub NotSeatExample : Type 0
NotSeatExample =
    (about : About AnySense) → ¬ IsSeat about two_commits (knowing about (active_with one_commit (idle one_commit 1 [] kept)))

-- the pass has the lock, and learned of both commits
abbrev pub at_work : PassView
at_work = active_with two_commits (idle one_commit 1 [] kept)

abbrev pub FreeExample : Type 0
FreeExample =
    (about : About AnySense) → IsFree opening two_commits (record {
      words = 0 ∷ [];
      homes = some (Some resting_heap) ∷ [];
      views = Some (knowing about (idle two_commits 2 [] kept)) ∷ [];
    })

abbrev pub TakenExample : Type 0
TakenExample =
    (about : About AnySense)
    → IsTaken opening two_commits (record { words = 1 ∷ []; homes = none ∷ []; views = Some (knowing about at_work) ∷ [] })

-- with each commit word 1 or word 2 comes nearer to its end
abbrev pub AnyWords : AnySense → List ℕ → List ℕ → Type 0
AnyWords sense words memory = Unit {0}

abbrev pub room_left : AnySense → List ℕ → ℕ
room_left sense memory = 20 - (slice_index memory 1 + slice_index memory 2)

abbrev pub made_for : ℕ → Made AnySense
made_for life = made_with tt opening (the_region ∷ []) life

abbrev pub HistoryExample : Type 0
HistoryExample =
    (about : About AnySense) → made_of about ≡ made_for 2 → IsHistory AnyWords room_left about two_commits

-- the memory may have one commit
abbrev pub NotHistoryExample : Type 0
NotHistoryExample =
    (about : About AnySense) → made_of about ≡ made_for 1 → ¬ IsHistory AnyWords room_left about two_commits

abbrev pub all_knowing : PassView
all_knowing = idle two_commits 2 (1 ∷ 2 ∷ []) whole

abbrev pub TableExample : Type 0
TableExample =
    (about : About AnySense) → made_of about ≡ made_for 2
    → IsTable AnyWords room_left about (record { words = 0 ∷ []; homes = some (Some resting_heap) ∷ []; views = Some (knowing about all_knowing) ∷ [] })

-- the lock is free, and yet the heap isn't there
abbrev pub NotTableExample : Type 0
NotTableExample =
    (about : About AnySense)
    → ¬ IsTable AnyWords room_left about (record { words = 0 ∷ []; homes = none ∷ []; views = Some (knowing about all_knowing) ∷ [] })

-- ---- steps
-- the seat has the lock and the heap
abbrev pub working : About AnySense → HeapView → Sat AnySense
working about heap = (Some (knowing about at_work), (0, Some heap) ∷ [])

-- the lock is free, and with it come the heap and all that there is to know
abbrev pub TakesExample : Type 0
TakesExample =
    (about : About AnySense) → made_of about ≡ made_for 2 → (step : Step (Option HeapView))
    → Takes AnyWords room_left step (Some (knowing about (idle one_commit 1 [] kept)), []) 0 (working about resting_heap)

-- it isn't free
abbrev pub TakesNothingExample : Type 0
TakesNothingExample =
    (about : About AnySense) (step : Step (Option HeapView))
    → Takes AnyWords room_left step (Some (knowing about (idle one_commit 1 [] kept)), []) 1 (Some (knowing about (idle one_commit 1 [] kept)), [])

-- the seat has joined one that knew of commit 1
abbrev pub LooksExample : Type 0
LooksExample =
    (about : About AnySense) → made_of about ≡ made_for 2 → (step : Step (Option HeapView))
    → Looks AnyWords room_left step (Some (record { about = about; pass = all_knowing; other = one_commit }), []) 0 (Some (knowing about all_knowing), [])

abbrev pub ReleasesExample : Type 0
ReleasesExample =
    (about : About AnySense) (step : Step (Option HeapView))
    → Releases step (working about resting_heap) 1 (Some (knowing about (idle two_commits 2 [] kept)), [])

-- commit 3 is the pass's own
abbrev pub PublishesExample : Type 0
PublishesExample =
    (about : About AnySense) (step : Step (Option HeapView))
    → Publishes step (working about open_heap) 1 (Some (knowing about (idle three_commits 3 (3 ∷ []) kept)), [])

-- the seat without its heap, which is to go back
abbrev pub giving : About AnySense → Sat AnySense
giving about = (Some (knowing about at_work), (0, None) ∷ [])

abbrev pub MayReleaseExample : Type 0
MayReleaseExample =
    (about : About AnySense) → made_of about ≡ made_for 2 → MayRelease (giving about) resting_heap

-- a write is still there
abbrev pub MayNotReleaseExample : Type 0
MayNotReleaseExample =
    (about : About AnySense) → made_of about ≡ made_for 2 → ¬ MayRelease (giving about) open_heap

-- the heap says by now that 3 commits led to it
abbrev pub MayPublishExample : Type 0
MayPublishExample =
    (about : About AnySense) → made_of about ≡ made_for 3 → MayPublish AnyWords room_left (giving about) (record open_heap { commits = 3 })

-- the memory may have two commits
abbrev pub MayNotPublishExample : Type 0
MayNotPublishExample =
    (about : About AnySense) → made_of about ≡ made_for 2 → ¬ MayPublish AnyWords room_left (giving about) (record open_heap { commits = 3 })

-- ---- passes with their heap
abbrev pub OpenExample : Type 0
OpenExample = IsOpen opening (the_region ∷ []) two_commits open_heap

-- the heap before the attempt isn't the last state
abbrev pub NotOpenExample : Type 0
NotOpenExample = ¬ IsOpen opening (the_region ∷ []) one_commit open_heap

-- word 2 is among the writes twice
abbrev pub WrittenTwiceExample : Type 0
WrittenTwiceExample = ¬ IsOpen opening (the_region ∷ []) two_commits (record open_heap { writes = word 2 6 ∷ word 2 9 ∷ [] })

abbrev pub RestingExample : Type 0
RestingExample =
    (about : About AnySense) (pass : TurnPass AnySense) → pass.seat.me ≡ (Some (knowing about (idle two_commits 2 [] kept)), []) → pass.heap ≡ None
    → IsResting about (idle two_commits 2 [] kept) pass × (attempt_of pass ≡ starting_at 2)

abbrev pub AtWorkExample : Type 0
AtWorkExample =
    (about : About AnySense) → made_of about ≡ made_for 2 → (pass : TurnPass AnySense) → pass.seat.me ≡ giving about → pass.heap ≡ Some open_heap
    → IsAtWork about at_work pass × (attempt_of pass ≡ attempt_on two_commits open_heap)
