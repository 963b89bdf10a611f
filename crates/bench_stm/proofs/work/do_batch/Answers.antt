-- A count, reads and writes.
use Rattle.std.proofs.Common.{rules}
use Rattle.bench_stm.proofs.Attempts.{stopped_after, counted_reads, counted_more, ready}
use Rattle.bench_stm.proofs.work.do_batch.Goals as goal

pub returns-in_err-sum-clause-cause : goal.returns-in_err-sum-clause-cause
returns-in_err-sum-clause-cause g c =
    let (ended, shown) = stopped_after c.in_ok-count_down.ensures.counted.goes_on c.in_err-sum.ensures.stopped in
    grind (rules, ended, shown, c.from_residual-in_err-sum.ensures)

pub write_accounts-requires-clause-lowers : goal.write_accounts-requires-clause-lowers
write_accounts-requires-clause-lowers g c =
    (counted_reads c.in_ok-count_down.ensures.counted c.in_ok-sum.ensures.reads).lowers

pub returns-clause-ready : goal.returns-clause-ready
returns-clause-ready g c =
    let read = counted_reads c.in_ok-count_down.ensures.counted c.in_ok-sum.ensures.reads in
    ready c.requires.addresses.words (counted_more 59 read c.write_accounts.ensures.counted)
