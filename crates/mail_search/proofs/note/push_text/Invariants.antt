use Rattle.std.proofs.Common.{◌≡◌, ◌+◌, ◌++◌, take}
use Rattle.arrayvec.specs.ArrayVec.{array_vec_len}
use Rattle.mail_search.proofs.note.push_text.Given as goal

abbrev pub invariant-loop-byte : goal.invariant-loop-byte
invariant-loop-byte l = (l.note.items ≡ l.initial.note.items ++ take l.byte-index l.text) × (array_vec_len l.note ≡ array_vec_len l.initial.note + l.byte-index)
