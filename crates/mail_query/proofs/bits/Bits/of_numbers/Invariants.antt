use Rattle.std.proofs.Common.{take}
use Rattle.mail_query.specs.Bits.{AreWords, HasBits}
use Rattle.mail_query.specs.Numbers.{has_number}
use Rattle.mail_query.proofs.bits.Bits.of_numbers.Given as goal

abbrev pub invariant-loop-number : goal.invariant-loop-number
invariant-loop-number l = AreWords l.count l.set.words.items × HasBits l.count l.set.words.items (λ n. has_number n (take l.number-index l.numbers))
