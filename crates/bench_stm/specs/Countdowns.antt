-- A memory whose first words say how many commits there may still be.
use Rattle.std.specs.Prelude.{◌≡◌, ℕ, ◌≤◌, List, length, sum, take}
use Rattle.bench_stm.specs.declared.addresses.TheConstants.{COUNTS}

-- how many commits there may still be
abbrev pub commits_left : List ℕ → ℕ
commits_left words = sum (take COUNTS words)

-- as many words as in the opening, and no more commits to come than there
pub record CountsDown (opening words : List ℕ) : Type 0 where
  pub size : length words ≡ length opening
  pub left : commits_left words ≤ commits_left opening
