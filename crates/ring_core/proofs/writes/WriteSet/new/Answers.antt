use Rattle.std.proofs.Common.{sym, subst, arith}
use Rattle.ring_core.specs.Chains.{IsIndexed}
use Rattle.ring_core.proofs.Chained.{index_opens}
use Rattle.ring_core.proofs.writes.WriteSet.new.Goals as goal

pub invariant_of-result : goal.invariant_of-result
invariant_of-result c = (
  omega (arith, c.in-Ok.ensures.len),
  c.in-Ok.ensures.capacity,
  subst (λ ws. IsIndexed ws _ _) (sym c.in-Ok.ensures.items) index_opens,
)
