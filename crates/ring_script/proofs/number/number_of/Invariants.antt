-- The digits so far, and their value.
use Rattle.std.proofs.Common.{◌≡◌, ℕ, ◌<◌, ◌≤◌, take, get_or}
use Rattle.ring_script.specs.Lines.{value_from}
use Rattle.ring_script.proofs.number.number_of.Given as goal

abbrev pub invariant-loop-byte : goal.invariant-loop-byte
invariant-loop-byte l = record {
  value : l.value ≡ value_from 0 (take l.byte-index l.token);
  digits : (k : ℕ) → k < l.byte-index → (48 ≤ get_or l.token k 0) × (get_or l.token k 0 ≤ 57);
}
