-- What a call says of a count of faults or of wants of memory.
use Rattle.std.specs.Prelude.{ℕ, ◌+◌, ◌-◌, ◌^◌, ◌≤◌, ◌≡◌, min, Result, IfErr, OnOk}

-- the count is greater than before, or stood at the end of its type
abbrev pub Rose : ℕ → ℕ → Type 0
Rose before now = min (before + 1) (2 ^ 64 - 1) ≤ now

-- The count doesn't fall. A refusal of this kind comes only where it rose, and every other answer leaves it: no fault is passed over.
pub record HasCause {T E : Type 0} (Kind : E → Type 0) (before now : ℕ) (result : Result T E) : Type 0 where
  pub later : before ≤ now
  pub refused : IfErr result (λ e. Kind e → Rose before now)
  pub kept : OnOk result (now ≡ before)
  pub other : IfErr result (λ e. ¬ Kind e → now ≡ before)
