-- What a memory was made with.
use Rattle.std.specs.Prelude.{◌≡◌, ◌≢◌, ◌⊎◌, ℕ, ◌+◌, ◌<◌, ◌≤◌, ◌^◌, List, length, slice_index, slice_index_or, Contains}
use Rattle.tx_model.specs.declared.gate.Region.{Region}
use Rattle.tx_model.specs.declared.gate.TheConstants.{GATE_OPEN, GATE_PACKED, GATE_UNUSED}

pub record Made (S : Type 0) : Type 0 where
  pub sense : S
  pub opening : List ℕ
  pub regions : List Region
  pub life : ℕ

-- the address is in the region
abbrev pub IsIn : ℕ → Region → Type 0
IsIn addr region = (region.base ≤ addr) × (addr < region.base + region.len)

-- the regions end before each other
abbrev pub LieApart : Region → Region → Type 0
LieApart region other = (region.base + region.len ≤ other.base) ⊎ (other.base + other.len ≤ region.base)

abbrev pub no_region : Region
no_region = record { gate = 0; base = 0; len = 0 }

abbrev pub region_at : List Region → ℕ → Region
region_at regions index = slice_index_or regions index no_region

-- regions lie in the memory and apart from each other, and no gate is in one
pub record AreWellFormed (opening : List ℕ) (regions : List Region) : Type 0 where
  pub lie_in : (region : Region) → Contains regions region → (0 < region.len) × (region.base + region.len ≤ length opening) × (region.gate < length opening)
  pub lie_apart : (i j : ℕ) → i < j → j < length regions → LieApart (region_at regions i) (region_at regions j)
  pub gates_apart : (i j : ℕ) → i < j → j < length regions → (region_at regions i).gate ≢ (region_at regions j).gate
  pub gates_outside : (region other : Region) → Contains regions region → Contains regions other → IsIn region.gate other → ⊥
  pub gates_opening : (region : Region) → Contains regions region
      → (slice_index opening region.gate ≡ GATE_UNUSED) ⊎ ((slice_index opening region.gate ≡ GATE_OPEN) ⊎ (slice_index opening region.gate ≡ GATE_PACKED))

-- what a memory may be made with
pub record IsMade {S : Type 0} (allows : S → List Region → Type 0) (good : S → List ℕ → List ℕ → Type 0) (made : Made S) : Type 0 where
  pub allowed : allows made.sense made.regions
  pub opening_good : good made.sense made.opening made.opening
  pub well_formed : AreWellFormed made.opening made.regions
  pub size : (1 ≤ length made.opening) × (length made.opening ≤ 2 ^ 27)
  pub life_span : (1 ≤ made.life) × (made.life ≤ 2 ^ 60)
