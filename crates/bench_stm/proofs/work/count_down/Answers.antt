-- The count was read, and is one lower.
use Rattle.std.proofs.Common.{arith}
use Rattle.bench_stm.proofs.Attempts.{counted_down, wrote}
use Rattle.bench_stm.proofs.work.count_down.Goals as goal

pub returns-clause-counted : goal.returns-clause-counted
returns-clause-counted g c =
    counted_down c.args.count_at c.in_ok-count.count (c.requires.addresses.below 0 0 (omega arith)) c.if-count-eq0.false c.requires.fresh
    c.in_ok-count.ensures.read c.write.ensures.same (wrote c.unwrap.ensures c.write.ensures.written)
