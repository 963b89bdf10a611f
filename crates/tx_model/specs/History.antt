-- A history is a list of commits over an opening memory.
use Rattle.std.specs.Prelude.{◌≡◌, ◌≢◌, ℕ, ◌+◌, ◌<◌, ◌≤◌, ◌++◌, List, [], ◌∷◌, length, take, Some, slice_get}
use Rattle.tx_model.specs.declared.history.Commit.{Commit}
use Rattle.tx_model.specs.Words.{AreApart}
use Rattle.tx_model.specs.Memory.{after, Agrees}

-- the memory after a commit: its writes, and then the regions that it published
abbrev pub after_commit : List ℕ → Commit → List ℕ
after_commit memory commit = after (after memory commit.writes) commit.carry

abbrev pub replay : List ℕ → List Commit → List ℕ
replay memory [] = memory
replay memory (commit ∷ history) = replay (after_commit memory commit) history

-- the memory after the first k commits
abbrev pub state_at : List ℕ → List Commit → ℕ → List ℕ
state_at opening history k = replay opening (take k history)

-- each commit read from the state before it
abbrev pub IsLegal : List ℕ → List Commit → Type 0
IsLegal opening history = (k : ℕ) (commit : Commit) → slice_get history k ≡ Some commit → Agrees commit.reads (state_at opening history k)

-- a commit wrote something, each address once
abbrev pub IsWriter : Commit → Type 0
IsWriter commit = (commit.writes ≢ []) × AreApart commit.writes

abbrev pub HasWriters : List Commit → Type 0
HasWriters history = (k : ℕ) (commit : Commit) → slice_get history k ≡ Some commit → IsWriter commit

-- the second list goes on where the first one ends
abbrev pub IsBeginning : {X : Type 0} → List X → List X → Type 0
IsBeginning {X} earlier later = (added : List X) × (later ≡ earlier ++ added)

-- every state is good, and each commit lowers the budget
pub record IsGoodHistory (good : List ℕ → Type 0) (budget : List ℕ → ℕ) (opening : List ℕ) (history : List Commit) : Type 0 where
  pub states : (k : ℕ) → k ≤ length history → good (state_at opening history k)
  pub falls : (k : ℕ) → k < length history → budget (state_at opening history (k + 1)) < budget (state_at opening history k)
