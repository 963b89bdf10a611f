-- A count, two reads and two writes.
use Rattle.std.proofs.Common.{rules}
use Rattle.bench_stm.proofs.Attempts.{stopped_after, counted_reads, counted_more, ready}
use Rattle.bench_stm.proofs.work.transfer.Goals as goal

pub returns-in_err-from-clause-cause : goal.returns-in_err-from-clause-cause
returns-in_err-from-clause-cause g c =
    let (ended, shown) = stopped_after c.in_ok-count_down.ensures.counted.goes_on c.in_err-from.ensures.stopped in
    grind (rules, ended, shown, c.from_residual-in_err-from.ensures)

pub returns-in_err-to-clause-cause : goal.returns-in_err-to-clause-cause
returns-in_err-to-clause-cause g c =
    let read = counted_reads c.in_ok-count_down.ensures.counted c.in_ok-from.ensures.reads in
    let (ended, shown) = stopped_after read.goes_on c.in_err-to.ensures.stopped in
    grind (rules, ended, shown, c.from_residual-in_err-to.ensures)

pub write_account-requires-clause-lowers : goal.write_account-requires-clause-lowers
write_account-requires-clause-lowers g c =
    let read = counted_reads c.in_ok-count_down.ensures.counted c.in_ok-from.ensures.reads in
    (counted_reads read c.in_ok-to.ensures.reads).lowers

pub returns-clause-ready : goal.returns-clause-ready
returns-clause-ready g c =
    let read = counted_reads c.in_ok-count_down.ensures.counted c.in_ok-from.ensures.reads in
    let both = counted_reads read c.in_ok-to.ensures.reads in
    let first = counted_more 1 both c.write_account.ensures.counted in
    ready c.requires.addresses.words (counted_more 1 first c.write_account-2.ensures.counted)
