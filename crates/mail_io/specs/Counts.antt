-- Counts of faults, of wants of memory and of calls. Each is a `u64`, and stands still at the end of that type.
use Rattle.std.specs.Prelude.{ℕ, ◌+◌, ◌-◌, ◌^◌, min}

-- the count after one more
abbrev pub counted_up : ℕ → ℕ
counted_up before = min (before + 1) (2 ^ 64 - 1)
