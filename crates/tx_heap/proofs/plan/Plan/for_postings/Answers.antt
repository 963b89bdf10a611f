use Rattle.std.proofs.Common.{rules}
use Rattle.tx_heap.proofs.plan.Plan.for_postings.Goals as goal

pub returns : goal.returns
returns c = search rules
