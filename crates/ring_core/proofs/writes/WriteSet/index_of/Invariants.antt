use Rattle.ring_core.proofs.Chained.{IsSought}
use Rattle.ring_core.proofs.writes.WriteSet.index_of.Given as goal

abbrev pub invariant-loop-number : goal.invariant-loop-number
invariant-loop-number l = IsSought l.self-inside.items.items l.addr l.number

abbrev pub decreases-loop-number : goal.decreases-loop-number
decreases-loop-number l = l.number
