-- A count, a read and a write.
use Rattle.std.proofs.Common.{rules}
use Rattle.bench_stm.proofs.Attempts.{stopped_after, counted_reads, counted_more, ready}
use Rattle.bench_stm.proofs.work.raise_counter.Goals as goal

pub returns-in_err-value-clause-cause : goal.returns-in_err-value-clause-cause
returns-in_err-value-clause-cause g c =
    let (ended, shown) = stopped_after c.in_ok-count_down.ensures.counted.goes_on c.in_err-value.ensures.stopped in
    grind (rules, ended, shown, c.from_residual-in_err-value.ensures)

pub write_account-requires-clause-lowers : goal.write_account-requires-clause-lowers
write_account-requires-clause-lowers g c =
    (counted_reads c.in_ok-count_down.ensures.counted c.in_ok-value.ensures.reads).lowers

pub returns-clause-ready : goal.returns-clause-ready
returns-clause-ready g c =
    let read = counted_reads c.in_ok-count_down.ensures.counted c.in_ok-value.ensures.reads in
    ready c.requires.addresses.words (counted_more 1 read c.write_account.ensures.counted)
