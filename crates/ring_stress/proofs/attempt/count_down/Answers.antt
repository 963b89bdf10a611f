-- The count was read, and is one lower.
use Rattle.ring_stress.proofs.Attempts.{counted_down, wrote}
use Rattle.ring_stress.proofs.attempt.count_down.Goals as goal

pub returns-clause-counted : goal.returns-clause-counted
returns-clause-counted g c =
    counted_down c.args.count_at c.in-Ok.count c.requires.counts c.requires.words c.if-count-eq0.false c.requires.fresh
    c.in-Ok.ensures.read c.write.ensures.same (wrote c.unwrap.ensures c.write.ensures.written)
