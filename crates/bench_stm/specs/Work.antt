-- What an attempt of the benchmark does.
use Rattle.std.specs.Prelude.{◌≡◌, ℕ, ◌+◌, ◌<◌, ◌≤◌, List, [], length, All}
use Rattle.tx_model.specs.declared.view.Attempt.{Attempt}
use Rattle.tx_model.specs.declared.view.PassView.{PassView}
use Rattle.tx_model.specs.Memory.{after, Agrees}
use Rattle.tx_model.specs.Calls.{GoesOn}
use Rattle.bench_stm.specs.declared.addresses.TheConstants.{COUNTS, WORDS}
use Rattle.bench_stm.specs.Countdowns.{commits_left}

-- the memory has all the words, and these ones count
pub record HasAddresses (opening counts : List ℕ) : Type 0 where
  pub words : length opening ≡ WORDS
  pub below : All (λ at. at < COUNTS) counts

-- it leads each memory that has what it read to one with fewer commits to come
abbrev pub Lowers : Attempt → Type 0
Lowers attempt =
    (memory : List ℕ) → length memory ≡ WORDS → Agrees attempt.reads memory
    → commits_left (after memory attempt.writes) < commits_left memory

-- the attempt goes on, has counted its commit, and wrote at most so many words
pub record HasCounted (most : ℕ) (old new : PassView) (before now : Attempt) : Type 0 where
  pub goes_on : GoesOn old new before now
  pub lowers : Lowers now
  pub none_published : now.published ≡ []
  pub few : length now.writes ≤ most
