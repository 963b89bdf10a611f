-- The bytes so far in lower case, and zero bytes after them.
use Rattle.std.proofs.Common.{◌≡◌, ℕ, ◌-◌, ◌++◌, map, take, replicate}
use Rattle.std.specs.Char.{to_ascii_lowercase}
use Rattle.mail_words.proofs.key.padded_lower.Given as goal

abbrev pub invariant-loop-index : goal.invariant-loop-index
invariant-loop-index l = l.bytes ≡ map to_ascii_lowercase (take l.index l.word) ++ replicate {A = ℕ} (32 - l.index) 0
