-- What two reads of an attempt say.
use Rattle.std.specs.Prelude.{◌≡◌, ℕ, ◌≤◌, ◌++◌, List, [], ◌∷◌, Some, length, slice_get}
use Rattle.tx_model.specs.declared.history.Commit.{Commit}
use Rattle.tx_model.specs.declared.view.Attempt.{Attempt}
use Rattle.tx_model.specs.History.{state_at}
use Rattle.tx_uses.specs.Raise.{at}

-- in one state, from the start on, both addresses had these values
pub record HadBoth (opening : List ℕ) (history : List Commit) (start first a second b : ℕ) : Type 0 where
  pub state : ℕ
  pub from_start : start ≤ state
  pub happened : state ≤ length history
  pub first_there : slice_get (state_at opening history state) first ≡ Some a
  pub second_there : slice_get (state_at opening history state) second ≡ Some b

-- the attempt with both reads, from that start on
abbrev pub with_both : Attempt → ℕ → ℕ → ℕ → ℕ → ℕ → Attempt
with_both attempt start first a second b =
    record {
      start = start;
      reads = attempt.reads ++ at first a ∷ at second b ∷ [];
      writes = attempt.writes;
      sealed = attempt.sealed;
      published = attempt.published;
    }
