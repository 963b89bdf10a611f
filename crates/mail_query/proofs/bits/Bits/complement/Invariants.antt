use Rattle.std.proofs.Common.{bit_xor}
use Rattle.mail_query.proofs.BitWords.{Worked}
use Rattle.mail_query.proofs.bits.Bits.complement.Given as goal

abbrev pub invariant-loop-index : goal.invariant-loop-index
invariant-loop-index l = Worked (λ word other. bit_xor word 18446744073709551615) l.initial.self.words.items l.initial.self.words.items l.self.words.items
    l.index
