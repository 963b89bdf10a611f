-- The numbers so far.
use Rattle.std.proofs.Common.{map, take}
use Rattle.ring_script.specs.Grammar.{AreNumbers}
use Rattle.ring_script.proofs.numbers.numbers_of.Given as goal

abbrev pub invariant-loop-token : goal.invariant-loop-token
invariant-loop-token l = AreNumbers (take l.token-index (map (λ t. t.now) l.tokens)) l.numbers.items
