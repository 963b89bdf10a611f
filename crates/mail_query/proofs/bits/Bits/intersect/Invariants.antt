use Rattle.std.proofs.Common.{bit_and}
use Rattle.mail_query.proofs.BitWords.{Worked}
use Rattle.mail_query.proofs.bits.Bits.intersect.Given as goal

abbrev pub invariant-loop-place : goal.invariant-loop-place
invariant-loop-place l = Worked bit_and l.initial.self.words.items l.other.words.items l.self.words.items l.place
