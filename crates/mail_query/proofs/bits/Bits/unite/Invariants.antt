use Rattle.std.proofs.Common.{bit_or}
use Rattle.mail_query.proofs.BitWords.{Worked}
use Rattle.mail_query.proofs.bits.Bits.unite.Given as goal

abbrev pub invariant-loop-index : goal.invariant-loop-index
invariant-loop-index l = Worked bit_or l.initial.self.words.items l.other.words.items l.self.words.items l.index
