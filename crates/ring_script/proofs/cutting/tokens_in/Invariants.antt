-- The tokens so far, and what is left.
use Rattle.std.proofs.Common.{◌≡◌, ℕ, ◌+◌, List, ◌++◌, length, map, Option, Some, None, MatchOption, Bor}
use Rattle.ring_script.specs.Lines.{tokens_of}
use Rattle.ring_script.proofs.cutting.tokens_in.Given as goal

abbrev left : Option (Bor (List ℕ)) → ℕ
left None = 0
left (Some rest) = length rest.now + 1

abbrev pub invariant-loop-rest : goal.invariant-loop-rest
invariant-loop-rest l =
    MatchOption l.rest (map (λ t. t.now) l.tokens.items ≡ tokens_of l.fn.content)
    (λ rest. tokens_of l.fn.content ≡ map (λ t. t.now) l.tokens.items ++ tokens_of rest.now)

abbrev pub decreases-loop-rest : goal.decreases-loop-rest
decreases-loop-rest l = left l.rest
