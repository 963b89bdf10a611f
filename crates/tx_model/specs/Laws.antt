-- laws of the definitions
use Rattle.std.specs.Prelude.{◌≡◌, ◌↔◌, ◌⊎◌, ℕ, ◌+◌, ◌<◌, ◌≤◌, ◌++◌, List, [], ◌∷◌, length, slice_get, Contains}
use Rattle.tx_model.specs.declared.pass.PassState.TheVariants.{Active}
use Rattle.tx_model.specs.declared.pass.Stop.{Stop}
use Rattle.tx_model.specs.declared.view.Attempt.{Attempt}
use Rattle.tx_model.specs.declared.view.PassView.{PassView}
use Rattle.tx_model.specs.declared.word.Word.{Word}
use Rattle.tx_model.specs.declared.history.Commit.{Commit}
use Rattle.tx_model.specs.Words.{value_of, AreApart}
use Rattle.tx_model.specs.Memory.{after}
use Rattle.tx_model.specs.History.{after_commit, state_at, IsBeginning, IsGoodHistory}
use Rattle.tx_model.specs.Attempt.{first_of}
use Rattle.tx_model.specs.Calls.{Ended, merged}
use Rattle.tx_model.specs.Pass.{AreStamps, IsWhole}

-- ---- memories and histories
-- writes keep the number of words
abbrev pub AfterLength : Type 0
AfterLength = (memory : List ℕ) (words : List Word) → length (after memory words) ≡ length memory

-- every state has as many words as the opening
abbrev pub StateLength : Type 0
StateLength = (opening : List ℕ) (history : List Commit) (k : ℕ) → length (state_at opening history k) ≡ length opening

-- where each address is written once, a word is the value written there, else what it was
abbrev pub AfterWord : Type 0
AfterWord =
    (memory : List ℕ) (words : List Word) → AreApart words → (addr : ℕ) → addr < length memory
    → slice_get (after memory words) addr ≡ first_of (value_of words addr) (slice_get memory addr)

-- a state that a beginning of the history has reached stays as it was
abbrev pub StateStays : Type 0
StateStays =
    (opening : List ℕ) (earlier later : List Commit) (k : ℕ) → IsBeginning earlier later → k ≤ length earlier
    → state_at opening later k ≡ state_at opening earlier k

-- one more commit leads on from the last state
abbrev pub StateAfter : Type 0
StateAfter =
    (opening : List ℕ) (history : List Commit) (commit : Commit)
    → state_at opening (history ++ commit ∷ []) (length (history ++ commit ∷ [])) ≡ after_commit (state_at opening history (length history)) commit

-- a good history has no more commits than the opening's budget
abbrev pub BudgetBounds : (List ℕ → Type 0) → (List ℕ → ℕ) → List ℕ → Type 0
BudgetBounds good budget opening =
    (history : List Commit) → IsGoodHistory good budget opening history
    → (budget (state_at opening history (length history)) + length history ≤ budget opening) × (length history ≤ budget opening)

-- ---- stops
-- an attempt of the one pass that lives is never stopped
abbrev pub NeverStopsWhole : {P : Type 0} → (P → Type 0) → (P → PassView) → (P → Attempt) → (List Commit → ℕ → List ℕ → Stop → Type 0) → Type 0
NeverStopsWhole {P} of view attempt shows =
    (old new : P) → of old → of new → IsWhole (view old) → (view old).state ≡ Active → Ended (view old) (view new) (attempt old)
    → (read : List ℕ) (stop : Stop) → ¬ shows (view new).history (attempt old).start read stop

-- ---- stamps
-- rising numbers of commits that have none in common give rising ones
abbrev pub MergedStamps : Type 0
MergedStamps =
    (count : ℕ) (stamps others : List ℕ) → AreStamps count stamps → AreStamps count others → ((stamp : ℕ) → Contains stamps stamp → ¬ Contains others stamp)
    → AreStamps count (merged stamps others)

-- and these are the numbers of both
abbrev pub MergedMembers : Type 0
MergedMembers =
    (stamps others : List ℕ) (stamp : ℕ) → Contains (merged stamps others) stamp ↔ (Contains stamps stamp ⊎ Contains others stamp)
