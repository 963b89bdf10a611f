-- The lines so far are read.
use Rattle.ring_script.proofs.Folding.{IsFolding, size}
use Rattle.ring_script.proofs.script.parse_within.Given as goal

abbrev pub invariant-loop-rest : goal.invariant-loop-rest
invariant-loop-rest l = IsFolding l.limit l.fn.text l.number l.rest l.draft

abbrev pub decreases-loop-rest : goal.decreases-loop-rest
decreases-loop-rest l = size l.rest
