-- How many commits seal a region.
use Rattle.std.specs.Prelude.{ℕ, ◌-◌, List, [], ◌∷◌, slice_index_or}
use Rattle.std.specs.List.{sum_by}
use Rattle.tx_model.specs.declared.gate.Region.{Region}
use Rattle.tx_model.specs.declared.history.Commit.{Commit}

abbrev pub no_commit : Commit
no_commit = record { reads = []; writes = []; sealed = []; published = []; carry = [] }

abbrev pub one_if_some : List Region → ℕ
one_if_some [] = 0
one_if_some (region ∷ regions) = 1

-- 1 for a commit that seals a region, else 0
abbrev pub seals_once : Commit → ℕ
seals_once commit = one_if_some commit.sealed

abbrev pub sealing_at : List Commit → ℕ → ℕ
sealing_at history stamp = seals_once (slice_index_or history (stamp - 1) no_commit)

-- how many of the commits of these numbers do
abbrev pub seals_of : List Commit → List ℕ → ℕ
seals_of history stamps = sum_by (sealing_at history) stamps

-- how many of all commits do
abbrev pub sealing_commits : List Commit → ℕ
sealing_commits history = sum_by seals_once history
