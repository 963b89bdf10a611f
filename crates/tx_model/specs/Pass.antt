-- What a pass stands for.
use Rattle.std.specs.Prelude.{◌≡◌, ◌≢◌, ◌↔◌, ℕ, ◌-◌, ◌<◌, ◌≤◌, ◌++◌, List, [], ◌∷◌, length, map, Some, slice_get, slice_index, Contains, Any}
use Rattle.std.specs.List.{range_with_len}
use Rattle.tx_model.specs.declared.gate.Region.{Region}
use Rattle.tx_model.specs.declared.gate.TheConstants.{GATE_SEALED}
use Rattle.tx_model.specs.declared.history.Commit.{Commit}
use Rattle.tx_model.specs.declared.pass.PassState.TheVariants.{Idle, Active, Stamped}
use Rattle.tx_model.specs.declared.pass.TheConstants.{MAX_WRITES}
use Rattle.tx_model.specs.declared.view.Attempt.{Attempt}
use Rattle.tx_model.specs.declared.view.Owned.{Owned}
use Rattle.tx_model.specs.declared.view.PassView.{PassView}
use Rattle.tx_model.specs.Memory.{words_in}
use Rattle.tx_model.specs.History.{state_at, IsLegal, HasWriters, IsGoodHistory}
use Rattle.tx_model.specs.Shares.{AreJoined, AreApartWithin}
use Rattle.tx_model.specs.Attempt.{Fits, commit_of, starting_at}
use Rattle.tx_model.specs.Rule.{gate_at, HaveOwnGates, AttemptFollows, FollowsRules}
use Rattle.tx_model.specs.Made.{Made}

-- no other pass lives
abbrev pub IsWhole : PassView → Type 0
IsWhole view = view.share ≡ [] ∷ []

-- numbers of commits of the history, rising
pub record AreStamps (count : ℕ) (stamps : List ℕ) : Type 0 where
  pub rise : (i j : ℕ) → i < j → j < length stamps → slice_index stamps i < slice_index stamps j
  pub within : (i : ℕ) → i < length stamps → (1 ≤ slice_index stamps i) × (slice_index stamps i ≤ count)

-- ---- what a pass owns
-- a region that a pass owns is one of the memory's, with all its words
pub record IsOwnable (regions : List Region) (o : Owned) : Type 0 where
  pub region : Contains regions o.region
  pub sealed_words : length o.at_sealing ≡ o.region.len
  pub words : length o.now ≡ o.region.len

abbrev pub OwnsRegion : List Owned → Region → Type 0
OwnsRegion owned region = Any (λ (o : Owned). o.region ≡ region) owned

-- no region is owned twice
abbrev pub OwnsOnce : List Owned → Type 0
OwnsOnce owned = HaveOwnGates (map (λ (o : Owned). o.region) owned)

-- the pass is stamped, and by its commit, which is among the first k, it publishes the region
abbrev pub HasPublished : PassView → Attempt → Region → ℕ → Type 0
HasPublished view attempt region k =
    (view.state ≡ Stamped) × Contains attempt.published region × ((stamp : ℕ) × Contains view.mine stamp × (view.front < stamp) × (stamp ≤ k))

-- a commit of the pass sealed the region, and is complete. In each state since then, up to the publishing one, the gate is sealed
-- and the region's words are as they were
pub record IsOwner (opening : List ℕ) (view : PassView) (attempt : Attempt) (o : Owned) : Type 0 where
  pub since : ℕ
  pub commit : Commit
  pub there : slice_get view.history (since - 1) ≡ Some commit
  pub sealed : Contains commit.sealed o.region
  pub own : Contains view.mine since
  pub complete : since ≤ view.front
  -- an attempt reads from such a state
  pub began : view.state ≢ Idle → since ≤ attempt.start
  pub is_sealed : (k : ℕ) → since ≤ k → k ≤ length view.history → ¬ HasPublished view attempt o.region k
      → gate_at opening view.history k o.region ≡ GATE_SEALED
  pub as_sealed : (k : ℕ) → since ≤ k → k ≤ length view.history → ¬ HasPublished view attempt o.region k
      → words_in (state_at opening view.history k) o.region ≡ o.at_sealing

-- the regions whose gate is sealed in the last state are those that the pass owns
abbrev pub OwnsSealed : List ℕ → List Region → PassView → Type 0
OwnsSealed opening regions view =
    (region : Region) → Contains regions region → (gate_at opening view.history (length view.history) region ≡ GATE_SEALED) ↔ OwnsRegion view.owned region

-- ---- what it does
-- the attempt did what it may, and read from one state, which fits it
pub record IsAttempt (opening : List ℕ) (regions : List Region) (view : PassView) (attempt : Attempt) : Type 0 where
  pub started : attempt.start ≤ length view.history
  pub from_one : Fits (state_at opening view.history attempt.start) attempt view.owned
  pub follows : AttemptFollows opening regions attempt
  pub owns : (region : Region) → Contains attempt.published region → OwnsRegion view.owned region
  pub room : length attempt.writes ≤ MAX_WRITES

-- the attempt is a commit of the history, the last one of the pass's own, and not complete
pub record IsStamped (view : PassView) (attempt : Attempt) : Type 0 where
  pub stamp : ℕ
  pub before : List ℕ
  pub mine : view.mine ≡ before ++ stamp ∷ []
  pub complete : (own : ℕ) → Contains before own → own ≤ view.front
  pub incomplete : view.front < stamp
  pub there : slice_get view.history (stamp - 1) ≡ Some (commit_of attempt view.owned)
  pub after_start : attempt.start < stamp

-- all passes but this one are spent, so it knows all
pub record KnowsAll (view : PassView) : Type 0 where
  pub front : view.front ≡ length view.history
  pub mine : view.mine ≡ range_with_len 1 (length view.history)

-- what holds of every pass
pub record IsPass {S : Type 0} (good : S → List ℕ → List ℕ → Type 0) (budget : S → List ℕ
    → ℕ) (made : Made S) (view : PassView) (attempt : Attempt) : Type 0 where
  -- its history
  pub legal : IsLegal made.opening view.history
  pub writers : HasWriters view.history
  pub rules : FollowsRules made.opening made.regions view.history
  pub good_states : IsGoodHistory (good made.sense made.opening) (budget made.sense) made.opening view.history
  pub lasts : length view.history ≤ made.life
  -- its own commits: all are complete, but for that of a stamped pass
  pub front : view.front ≤ length view.history
  pub mine : AreStamps (length view.history) view.mine
  pub settled : view.state ≢ Stamped → (own : ℕ) → Contains view.mine own → own ≤ view.front
  pub stamped : view.state ≡ Stamped → IsStamped view attempt
  -- its names
  pub named : view.share ≢ []
  pub joined : AreJoined view.share
  pub names_apart : AreApartWithin view.share
  -- its regions
  pub owns : (o : Owned) → Contains view.owned o → IsOwnable made.regions o
  pub owns_once : OwnsOnce view.owned
  pub owners : (o : Owned) → Contains view.owned o → IsOwner made.opening view attempt o
  -- its attempt
  pub idle : view.state ≡ Idle → attempt ≡ starting_at attempt.start
  pub attempting : view.state ≢ Idle → IsAttempt made.opening made.regions view attempt
  -- where no other pass lives, and its own commits are complete
  pub whole : IsWhole view → view.state ≢ Stamped → KnowsAll view
  pub sealed : IsWhole view → view.state ≢ Stamped → OwnsSealed made.opening made.regions view
  pub last : IsWhole view → view.state ≡ Active → attempt.start ≡ length view.history
