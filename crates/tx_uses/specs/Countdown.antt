-- A memory whose word 0 says how many commits there may still be.
use Rattle.std.specs.Prelude.{◌≡◌, ℕ, ◌≤◌, List, length, slice_index}

-- how many commits there may still be
abbrev pub count_of : List ℕ → ℕ
count_of words = slice_index words 0

-- as many words as in the opening, and no more commits to come than there
pub record CountsDown (opening words : List ℕ) : Type 0 where
  pub size : length words ≡ length opening
  pub count : count_of words ≤ count_of opening
