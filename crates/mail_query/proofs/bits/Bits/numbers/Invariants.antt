use Rattle.std.proofs.Common.{◌≡◌, filter}
use Rattle.std.specs.List.{range_with_len}
use Rattle.mail_query.specs.Bits.{has_bit}
use Rattle.mail_query.proofs.bits.Bits.numbers.Given as goal

abbrev pub invariant-loop-index : goal.invariant-loop-index
invariant-loop-index l = l.numbers.items ≡ filter (has_bit l.self.words.items) (range_with_len 1 l.index)
