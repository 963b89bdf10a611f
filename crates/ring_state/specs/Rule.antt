-- The rule of regions, as a stored caller tests it.
use Rattle.std.specs.Prelude.{◌≡◌, ◌⊎◌, ℕ, Some}
use Rattle.tx_model.specs.declared.gate.TheConstants.{GATE_UNUSED, GATE_OPEN, GATE_PACKED}
use Rattle.tx_model.specs.declared.gate.Region.{Region}
use Rattle.tx_model.specs.declared.view.Attempt.{Attempt}
use Rattle.tx_model.specs.Words.{HasAddress}
use Rattle.tx_model.specs.Made.{IsIn}
use Rattle.tx_model.specs.Attempt.{gate_value}

-- the attempt has read this gate, which is open or packed for it: the words of its region may be read
pub record IsReadable (attempt : Attempt) (gate : ℕ) : Type 0 where
  pub was_read : HasAddress attempt.reads gate
  pub value : (gate_value attempt gate ≡ Some GATE_OPEN) ⊎ (gate_value attempt gate ≡ Some GATE_PACKED)

-- it is open: they may be written
pub record IsWritable (attempt : Attempt) (gate : ℕ) : Type 0 where
  pub was_read : HasAddress attempt.reads gate
  pub value : gate_value attempt gate ≡ Some GATE_OPEN

-- what one region asks of a read of this word, and of a write
abbrev pub LetsRead : Attempt → ℕ → Region → Type 0
LetsRead attempt addr region = IsIn addr region → IsReadable attempt region.gate

pub record LetsWrite (attempt : Attempt) (addr value : ℕ) (region : Region) : Type 0 where
  pub inside : IsIn addr region → IsWritable attempt region.gate
  pub opens : addr ≡ region.gate → (gate_value attempt addr ≡ Some GATE_UNUSED) × (value ≡ GATE_OPEN)
