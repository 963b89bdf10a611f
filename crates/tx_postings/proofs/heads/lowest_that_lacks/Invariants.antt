-- None of the first lanes lacks words.
use Rattle.std.proofs.Common.{◌≡◌, ◌<◌, ℕ, Some, None, get_or}
use Rattle.tx_postings.specs.Heads.{Lacks}
use Rattle.tx_postings.specs.declared.heads.Head.{Head}
use Rattle.tx_postings.proofs.heads.lowest_that_lacks.Given as goal

abbrev pub invariant-loop-lane : goal.invariant-loop-lane
invariant-loop-lane l = (other : ℕ) (head : Head) → other < l.lane → get_or l.heads other None ≡ Some head → ¬ Lacks head
