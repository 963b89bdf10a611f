-- What an attempt may read, write and commit.
use Rattle.std.specs.Prelude.{◌≡◌, ◌⊎◌, ℕ, ◌<◌, ◌==◌, ◌++◌, Bool, not, List, [], ◌∷◌, map, filter, Option, Some, None, Contains, if◌then◌else◌}
use Rattle.std.specs.List.{list_any}
use Rattle.tx_model.specs.declared.gate.Region.{Region}
use Rattle.tx_model.specs.declared.word.Word.{Word}
use Rattle.tx_model.specs.declared.history.Commit.{Commit}
use Rattle.tx_model.specs.declared.view.Attempt.{Attempt}
use Rattle.tx_model.specs.declared.view.Owned.{Owned}
use Rattle.tx_model.specs.Words.{value_of, HasAddress}
use Rattle.tx_model.specs.Memory.{after, Agrees, words_in, words_from}
use Rattle.tx_model.specs.History.{after_commit}
use Rattle.tx_model.specs.declared.gate.TheConstants.{GATE_UNUSED, GATE_OPEN, GATE_PACKED}
use Rattle.tx_model.specs.Made.{IsIn}

abbrev pub starting_at : ℕ → Attempt
starting_at start = record { start = start; reads = []; writes = []; sealed = []; published = [] }

abbrev pub first_of : Option ℕ → Option ℕ → Option ℕ
first_of None other = other
first_of (Some value) other = Some value

-- the value of a gate in the attempt: what it wrote there, else what it read there
abbrev pub gate_value : Attempt → ℕ → Option ℕ
gate_value attempt gate = first_of (value_of attempt.writes gate) (value_of attempt.reads gate)

-- a word in a region may be read where the attempt has read the gate as open or packed, and didn't publish the region
pub record MayRead (regions : List Region) (attempt : Attempt) (addr : ℕ) : Type 0 where
  pub gate_read : (region : Region) → Contains regions region → IsIn addr region → HasAddress attempt.reads region.gate
  pub readable : (region : Region) → Contains regions region → IsIn addr region
      → (gate_value attempt region.gate ≡ Some GATE_OPEN) ⊎ (gate_value attempt region.gate ≡ Some GATE_PACKED)
  pub not_published : (region : Region) → Contains regions region → IsIn addr region → Contains attempt.published region → ⊥

-- it may be written where the gate was read, and is open in the attempt; a gate only from unused to open
pub record MayWrite (regions : List Region) (attempt : Attempt) (addr value : ℕ) : Type 0 where
  pub gate_read : (region : Region) → Contains regions region → IsIn addr region → HasAddress attempt.reads region.gate
  pub writable : (region : Region) → Contains regions region → IsIn addr region → gate_value attempt region.gate ≡ Some GATE_OPEN
  pub opens : (region : Region) → Contains regions region → addr ≡ region.gate → (gate_value attempt addr ≡ Some GATE_UNUSED) × (value ≡ GATE_OPEN)

-- the reads after one more: a word that the attempt has written itself isn't among them
abbrev pub reads_with : Option ℕ → List Word → ℕ → ℕ → List Word
reads_with None reads addr value = reads ++ record { addr = addr; value = value } ∷ []
reads_with (Some written) reads addr value = reads

abbrev pub reads_after : Attempt → ℕ → ℕ → List Word
reads_after attempt addr value = reads_with (value_of attempt.writes addr) attempt.reads addr value

-- gates are distinct, so a gate tells the region
abbrev pub has_region : List Region → Region → Bool
has_region regions region = list_any (λ (other : Region). other.gate == region.gate) regions

-- all words of the regions that are published, as their owner left them
abbrev pub carry_of : List Owned → List Region → List Word
carry_of [] published = []
carry_of (o ∷ owned) published = (if has_region published o.region then words_from o.region.base o.now else []) ++ carry_of owned published

-- the commit that the attempt makes
abbrev pub commit_of : Attempt → List Owned → Commit
commit_of attempt owned = record {
  reads = attempt.reads;
  writes = attempt.writes;
  sealed = attempt.sealed;
  published = attempt.published;
  carry = carry_of owned attempt.published;
}

-- a region as its new owner has it
abbrev pub just_sealed : List ℕ → Region → Owned
just_sealed memory region = record { region = region; at_sealing = words_in memory region; now = words_in memory region }

-- what a pass owns after the commit, which led to this memory
abbrev pub owned_after : List ℕ → Attempt → List Owned → List Owned
owned_after memory attempt owned = filter (λ (o : Owned). not (has_region attempt.published o.region)) owned ++ map (just_sealed memory) attempt.sealed

-- the attempt may have read from this memory: it has its reads, and what the pass owns is there as it was sealed
pub record Fits (memory : List ℕ) (attempt : Attempt) (owned : List Owned) : Type 0 where
  pub reads : Agrees attempt.reads memory
  pub contents : (o : Owned) → Contains owned o → words_in memory o.region ≡ o.at_sealing

-- this holds of every good memory that fits the attempt, with the attempt's writes over it
abbrev pub HoldsOver : (List ℕ → Type 0) → Attempt → List Owned → (List ℕ → Type 0) → Type 0
HoldsOver good attempt owned P =
    (memory : List ℕ) → good memory → Fits memory attempt owned → P (after memory attempt.writes)

-- each good memory that fits the attempt is led to a good one with a lower budget
abbrev pub MayCommit : (List ℕ → Type 0) → (List ℕ → ℕ) → Attempt → List Owned → Type 0
MayCommit good budget attempt owned =
    (memory : List ℕ) → good memory → Fits memory attempt owned
    → good (after_commit memory (commit_of attempt owned)) × (budget (after_commit memory (commit_of attempt owned)) < budget memory)
