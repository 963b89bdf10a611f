-- Laws of the region rule.
use Rattle.std.specs.Prelude.{◌≡◌, ◌⊎◌, ℕ, ◌+◌, ◌<◌, ◌≤◌, List, length, map, slice_get, Some, Contains}
use Rattle.tx_model.specs.declared.gate.Region.{Region}
use Rattle.tx_model.specs.declared.gate.TheConstants.{GATE_OPEN, GATE_SEALED, GATE_PACKED}
use Rattle.tx_model.specs.declared.history.Commit.{Commit}
use Rattle.tx_model.specs.declared.view.Attempt.{Attempt}
use Rattle.tx_model.specs.declared.view.Owned.{Owned}
use Rattle.tx_model.specs.Words.{value_of, HasAddress}
use Rattle.tx_model.specs.Memory.{words_in}
use Rattle.tx_model.specs.History.{state_at, IsLegal}
use Rattle.tx_model.specs.Made.{AreWellFormed, IsIn}
use Rattle.tx_model.specs.Attempt.{starting_at, reads_after, MayRead, MayWrite, commit_of}
use Rattle.tx_model.specs.Calls.{with_write}
use Rattle.tx_model.specs.Pass.{IsOwnable, OwnsRegion}
use Rattle.tx_model.specs.Rule.{gate_at, HaveOwnGates, AttemptFollows, FollowsRule, FollowsRules, MaySeal, with_seal, MayPublish, with_publish}

-- ---- what an attempt does keeps the rule
abbrev pub StartFollows : Type 0
StartFollows = (opening : List ℕ) (regions : List Region) (start : ℕ) → AttemptFollows opening regions (starting_at start)

-- the reads that it has made are of a later state too
abbrev pub LaterStartFollows : Type 0
LaterStartFollows =
    (opening : List ℕ) (regions : List Region) (attempt : Attempt) (start : ℕ) → AttemptFollows opening regions attempt
    → AttemptFollows opening regions (record attempt { start = start })

abbrev pub ReadFollows : Type 0
ReadFollows =
    (opening : List ℕ) (regions : List Region) (attempt : Attempt) (addr value : ℕ) → MayRead regions attempt addr → AttemptFollows opening regions attempt
    → AttemptFollows opening regions (record attempt { reads = reads_after attempt addr value })

abbrev pub WriteFollows : Type 0
WriteFollows =
    (opening : List ℕ) (regions : List Region) (attempt : Attempt) (addr value : ℕ) → addr < length opening → MayWrite regions attempt addr value
    → AttemptFollows opening regions attempt
    → AttemptFollows opening regions (with_write attempt addr value)

abbrev pub SealFollows : Type 0
SealFollows =
    (opening : List ℕ) (regions : List Region) (attempt : Attempt) (region : Region) → AreWellFormed opening regions → MaySeal regions attempt region
    → AttemptFollows opening regions attempt
    → AttemptFollows opening regions (with_seal attempt region)

abbrev pub PublishFollows : Type 0
PublishFollows =
    (opening : List ℕ) (regions : List Region) (attempt : Attempt) (region : Region) → AreWellFormed opening regions → MayPublish regions attempt region
    → AttemptFollows opening regions attempt
    → AttemptFollows opening regions (with_publish attempt region)

-- the commit of an attempt that follows the rule follows it, where the pass owns what it publishes
abbrev pub CommitFollows : Type 0
CommitFollows =
    (opening : List ℕ) (regions : List Region) (attempt : Attempt) (owned : List Owned) → AreWellFormed opening regions → AttemptFollows opening regions attempt
    → ((o : Owned) → Contains owned o → IsOwnable regions o) → HaveOwnGates (map (λ (o : Owned). o.region) owned)
    → ((region : Region) → Contains attempt.published region → OwnsRegion owned region)
    → FollowsRule opening regions (commit_of attempt owned)

-- ---- what one commit does
-- a value that it leaves at a gate is greater than the one that it read there, and at most packed
abbrev pub GateRises : Type 0
GateRises =
    (opening : List ℕ) (regions : List Region) (commit : Commit) (region : Region) (value : ℕ) → FollowsRule opening regions commit → Contains regions region
    → value_of commit.writes region.gate ≡ Some value → (was : ℕ) × (value_of commit.reads region.gate ≡ Some was) × (was < value) × (value ≤ GATE_PACKED)

-- it writes inside a region only where it read the gate as at most open
abbrev pub WritesBelow : Type 0
WritesBelow =
    (opening : List ℕ) (regions : List Region) (commit : Commit) (region : Region) (addr : ℕ) → FollowsRule opening regions commit → Contains regions region
    → HasAddress commit.writes addr → IsIn addr region → (was : ℕ) × (value_of commit.reads region.gate ≡ Some was) × (was ≤ GATE_OPEN)

-- where it seals or publishes a region, it leaves at least sealed at the gate
abbrev pub EndsAbove : Type 0
EndsAbove =
    (opening : List ℕ) (regions : List Region) (commit : Commit) (region : Region) → FollowsRule opening regions commit
    → Contains commit.sealed region ⊎ Contains commit.published region → (value : ℕ) × (value_of commit.writes region.gate ≡ Some value) × (GATE_SEALED ≤ value)

-- it carries no gate
abbrev pub CarriesNoGate : Type 0
CarriesNoGate =
    (opening : List ℕ) (regions : List Region) (commit : Commit) (region : Region) → AreWellFormed opening regions → FollowsRule opening regions commit
    → Contains regions region
    → ¬ HasAddress commit.carry region.gate

-- ---- histories
-- a legal history of commits that follow the rule
pub record IsRuled (opening : List ℕ) (regions : List Region) (history : List Commit) : Type 0 where
  pub well_formed : AreWellFormed opening regions
  pub legal : IsLegal opening history
  pub rules : FollowsRules opening regions history

-- no gate's value falls
abbrev pub GatesRise : Type 0
GatesRise =
    (opening : List ℕ) (regions : List Region) (history : List Commit) (region : Region) (i k : ℕ) → IsRuled opening regions history → Contains regions region
    → i ≤ k → gate_at opening history i region ≤ gate_at opening history k region

-- a commit that writes a gate raises it
abbrev pub WrittenGateRises : Type 0
WrittenGateRises =
    (opening : List ℕ) (regions : List Region) (history : List Commit) (region : Region) (k : ℕ) (commit : Commit) → IsRuled opening regions history
    → Contains regions region
    → slice_get history k ≡ Some commit → HasAddress commit.writes region.gate → gate_at opening history k region < gate_at opening history (k + 1) region

-- after a commit that seals or publishes a region no commit writes in it
abbrev pub ClosedAfter : Type 0
ClosedAfter =
    (opening : List ℕ) (regions : List Region) (history : List Commit) (region : Region) (i k : ℕ) (one other : Commit) (addr : ℕ)
    → IsRuled opening regions history
    → i < k → slice_get history i ≡ Some one → slice_get history k ≡ Some other → Contains one.sealed region ⊎ Contains one.published region
    → HasAddress other.writes addr → ¬ IsIn addr region

-- while a region's gate stays sealed or packed, its words stay
abbrev pub WordsStay : Type 0
WordsStay =
    (opening : List ℕ) (regions : List Region) (history : List Commit) (region : Region) (i k : ℕ) → IsRuled opening regions history → Contains regions region
    → i ≤ k → GATE_SEALED ≤ gate_at opening history i region → gate_at opening history k region ≡ gate_at opening history i region
    → words_in (state_at opening history k) region ≡ words_in (state_at opening history i) region

-- a packed region stays packed
abbrev pub PackedStays : Type 0
PackedStays =
    (opening : List ℕ) (regions : List Region) (history : List Commit) (region : Region) (i k : ℕ) → IsRuled opening regions history → Contains regions region
    → i ≤ k → gate_at opening history i region ≡ GATE_PACKED → gate_at opening history k region ≡ GATE_PACKED
