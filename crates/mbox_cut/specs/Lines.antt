-- Where a line ends.
use Rattle.std.specs.Prelude.{◌≡◌, ℕ, ◌<◌, ◌≤◌, true, false, List, length}
use Rattle.mbox_cut.specs.Mbox.{starts_line}

-- a line that starts at one position reaches up to the other
pub record EndsLine (bytes : List ℕ) (start end : ℕ) : Type 0 where
  pub after : start < end
  pub within : end ≤ length bytes
  pub none_between : (position : ℕ) → start < position → position < end → starts_line bytes position ≡ false
  pub next : end < length bytes → starts_line bytes end ≡ true
