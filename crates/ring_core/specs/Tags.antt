-- The tag of an entry's slot, by the phase of the entry. It is 0 where the slot was never used.
use Rattle.std.specs.Prelude.{ℕ, ◌+◌, ◌*◌, ◌/◌}

-- its signature is being stored
abbrev pub filling : ℕ → ℕ
filling entry = 4 * entry + 1

-- its words are being stored
abbrev pub writing : ℕ → ℕ
writing entry = 4 * entry + 2

-- all its words are stored
abbrev pub complete : ℕ → ℕ
complete entry = 4 * entry + 3

-- the entry whose tag this is
abbrev pub entry_of : ℕ → ℕ
entry_of tag = tag / 4
