-- One more region is that of the next segment.
use Rattle.tx_heap.proofs.Pushes.{pushed_region}
use Rattle.tx_heap.proofs.plan.Plan.regions.Goals as goal

pub loop-segment-preserved : goal.loop-segment-preserved
loop-segment-preserved c =
    pushed_region c.args.self.now c.loop-segment.segment c.loop-segment.regions.items c.push.new.self.items c.region.result c.in-Ok-push.ensures.items
    c.loop-segment.invariant c.region.ensures
