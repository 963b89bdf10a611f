-- The region rule, by the values of the gates that were read and written.
-- `AttemptFollows opening regions attempt`: what an attempt keeps that does only what it may.
-- `FollowsRule opening regions commit` and `FollowsRules opening regions history`: what a commit does, and every commit of a history.
-- `MaySeal`, `with_seal`, `MayPublish`, `with_publish`: the moves of an attempt beside `MayRead` and `MayWrite`.
-- Their laws are in RuleLaws, and their lemmas in proofs/lemmas/Rule.antt (`read_follows`, `write_follows`, `seal_follows`,
-- `publish_follows`, `commit_follows`) and proofs/lemmas/Gates.antt (`gates_rise`, `closed_after`, `words_stay` and others).
use Rattle.std.specs.Prelude.{◌≡◌, ◌≢◌, ◌⊎◌, ℕ, ◌<◌, ◌++◌, List, [], ◌∷◌, length, Some, slice_get, slice_index, Contains}
use Rattle.tx_model.specs.declared.gate.Region.{Region}
use Rattle.tx_model.specs.declared.gate.TheConstants.{GATE_UNUSED, GATE_OPEN, GATE_SEALED, GATE_PACKED}
use Rattle.tx_model.specs.declared.word.Word.{Word}
use Rattle.tx_model.specs.declared.history.Commit.{Commit}
use Rattle.tx_model.specs.declared.view.Attempt.{Attempt}
use Rattle.tx_model.specs.Words.{value_of, put, HasAddress, AreApart}
use Rattle.tx_model.specs.Memory.{words_from}
use Rattle.tx_model.specs.History.{state_at}
use Rattle.tx_model.specs.Made.{IsIn, region_at}
use Rattle.tx_model.specs.Attempt.{gate_value}

-- the value of a region's gate in a state
abbrev pub gate_at : List ℕ → List Commit → ℕ → Region → ℕ
gate_at opening history k region = slice_index (state_at opening history k) region.gate

-- no two regions of the list have one gate
abbrev pub HaveOwnGates : List Region → Type 0
HaveOwnGates regions = (i j : ℕ) → i < j → j < length regions → (region_at regions i).gate ≢ (region_at regions j).gate

module _ (reads writes : List Word) where
  -- its gate was read as open, or was read as unused and then opened
  abbrev pub WasOpen : Region → Type 0
  WasOpen region =
      (value_of reads region.gate ≡ Some GATE_OPEN) ⊎ ((value_of reads region.gate ≡ Some GATE_UNUSED) × HasAddress writes region.gate)

  -- its gate was open, and sealed was written there
  pub record IsSealing (region : Region) : Type 0 where
    pub was_open : WasOpen region
    pub wrote : value_of writes region.gate ≡ Some GATE_SEALED

  -- its gate was read as sealed, and packed was written there
  pub record IsPublishing (region : Region) : Type 0 where
    pub was_sealed : value_of reads region.gate ≡ Some GATE_SEALED
    pub wrote : value_of writes region.gate ≡ Some GATE_PACKED

-- a value is written to a gate to open, to seal or to publish its region
abbrev pub IsGateWrite : List Word → List Region → List Region → Region → ℕ → Type 0
IsGateWrite reads sealed published region value =
    ((value ≡ GATE_OPEN) × (value_of reads region.gate ≡ Some GATE_UNUSED))
    ⊎ (((value ≡ GATE_SEALED) × Contains sealed region) ⊎ ((value ≡ GATE_PACKED) × Contains published region))

-- what may be read and written in regions and at their gates, where these regions are sealed and those published
pub record UsesRegions (regions : List Region) (reads writes : List Word) (sealed published : List Region) : Type 0 where
  pub reads_inside : (region : Region) (addr : ℕ) → Contains regions region → IsIn addr region → HasAddress reads addr
      → WasOpen reads writes region ⊎ (value_of reads region.gate ≡ Some GATE_PACKED)
  pub writes_inside : (region : Region) (addr : ℕ) → Contains regions region → IsIn addr region → HasAddress writes addr → WasOpen reads writes region
  pub gates : (region : Region) (value : ℕ) → Contains regions region → value_of writes region.gate ≡ Some value
      → IsGateWrite reads sealed published region value
  pub seals : (region : Region) → Contains sealed region → Contains regions region × IsSealing reads writes region
  pub publishes : (region : Region) → Contains published region → Contains regions region × IsPublishing reads writes region
  pub sealed_once : HaveOwnGates sealed
  pub published_once : HaveOwnGates published

-- each address is there once, and in the memory
pub record ArePlaced (opening : List ℕ) (words : List Word) : Type 0 where
  pub apart : AreApart words
  pub within : (addr : ℕ) → HasAddress words addr → addr < length opening

-- the carry has all words of the region
pub record IsCarried (carry : List Word) (region : Region) : Type 0 where
  pub contents : List ℕ
  pub whole : length contents ≡ region.len
  pub all : (word : Word) → Contains (words_from region.base contents) word → Contains carry word

module _ (opening : List ℕ) (regions : List Region) where
  pub record AttemptFollows (attempt : Attempt) : Type 0 where
    pub uses : UsesRegions regions attempt.reads attempt.writes attempt.sealed attempt.published
    pub placed : ArePlaced opening attempt.writes

  pub record FollowsRule (commit : Commit) : Type 0 where
    pub uses : UsesRegions regions commit.reads commit.writes commit.sealed commit.published
    -- all words of the regions that are published are carried, and no other word is
    pub carries : (region : Region) → Contains commit.published region → IsCarried commit.carry region
    pub carried : (addr : ℕ) → HasAddress commit.carry addr → (region : Region) × Contains commit.published region × IsIn addr region
    pub placed : ArePlaced opening (commit.writes ++ commit.carry)

  abbrev pub FollowsRules : List Commit → Type 0
  FollowsRules history = (k : ℕ) (commit : Commit) → slice_get history k ≡ Some commit → FollowsRule commit

-- ---- sealing and publishing
-- a region may be sealed where the attempt has read its gate, and it is open in the attempt
pub record MaySeal (regions : List Region) (attempt : Attempt) (region : Region) : Type 0 where
  pub of_memory : Contains regions region
  pub gate_read : HasAddress attempt.reads region.gate
  pub is_open : gate_value attempt region.gate ≡ Some GATE_OPEN

abbrev pub with_seal : Attempt → Region → Attempt
with_seal attempt region =
    record {
      start = attempt.start;
      reads = attempt.reads;
      writes = put attempt.writes region.gate GATE_SEALED;
      sealed = attempt.sealed ++ region ∷ [];
      published = attempt.published;
    }

-- it may be published where the attempt has read its gate as sealed, and hasn't published it yet
pub record MayPublish (regions : List Region) (attempt : Attempt) (region : Region) : Type 0 where
  pub of_memory : Contains regions region
  pub gate_read : value_of attempt.reads region.gate ≡ Some GATE_SEALED
  pub once : Contains attempt.published region → ⊥

abbrev pub with_publish : Attempt → Region → Attempt
with_publish attempt region =
    record {
      start = attempt.start;
      reads = attempt.reads;
      writes = put attempt.writes region.gate GATE_PACKED;
      sealed = attempt.sealed;
      published = attempt.published ++ region ∷ [];
    }
