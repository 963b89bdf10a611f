-- Those who share a memory or a queue: each has a share of the names, and numbers of its own.
-- `views` is the list of all there ever were, by whatever each is known.
use Rattle.std.specs.Prelude.{◌≡◌, ◌≢◌, ℕ, ◌≤◌, List, Contains}
use mathlib.Core.Option.{some}
use lib.ListN.{get_elem?}
use Rattle.tx_model.specs.Shares.{Name, AreSharesApart}

-- the names of different ones are apart
abbrev pub AreNamed : {V : Type 0} → (V → List Name) → List V → Type 0
AreNamed {V} share_of views =
    (i j : ℕ) (one other : V) → get_elem? views i ≡ some one → get_elem? views j ≡ some other → i ≢ j → AreSharesApart (share_of one) (share_of other)

-- each number from 1 to the count is somebody's
abbrev pub HaveAll : {V : Type 0} → (V → List ℕ) → List V → ℕ → Type 0
HaveAll {V} mine_of views count =
    (number : ℕ) → 1 ≤ number → number ≤ count → (i : ℕ) × (one : V) × (get_elem? views i ≡ some one) × Contains (mine_of one) number

-- no number is that of two
abbrev pub HaveOnce : {V : Type 0} → (V → List ℕ) → List V → Type 0
HaveOnce {V} mine_of views =
    (i j : ℕ) (one other : V) (number : ℕ) → get_elem? views i ≡ some one → get_elem? views j ≡ some other
    → Contains (mine_of one) number → Contains (mine_of other) number → i ≡ j
