-- The lane's own segment, its free words, and a fresh one.
use Rattle.std.proofs.Common.{◌-◌, refl, subst, arith}
use Rattle.std.proofs.lemmas.Result.{err_from_is_err_and}
use Rattle.tx_heap.specs.Calls.{made_sizes}
use Rattle.tx_model.proofs.lemmas.Attempts.{only_reads_then}
use Rattle.tx_buckets.specs.Reading.{IsOpened}
use Rattle.tx_heap.proofs.lemmas.Stops.{stopped_after}
use Rattle.tx_buckets.proofs.lemmas.Opened.{opened_only}
use Rattle.tx_postings.proofs.LeaveSteps.{open_here, moved, used_small, roomy, may_grow, own_full, left}
use Rattle.tx_postings.proofs.leaving.leave_full.Goals as goal

pub returns-then-current-segment-clause-left : goal.returns-then-current-segment-clause-left
returns-then-current-segment-clause-left g c = moved c.requires.new c.in_ok-current.ensures.opened c.args.segment c.if-current-segment.true

pub read_word-requires-clause-opened : goal.read_word-requires-clause-opened
read_word-requires-clause-opened g c =
    subst (IsOpened (made_sizes (g.M.TxMemory.made c.args.mem.now)) (g.M.TxMemory.attempt c.open_segment.new.pass)) c.if-current-segment.false
    (open_here c.requires.new c.in_ok-current.ensures.opened)

pub returns-in_err-used-clause-cause : goal.returns-in_err-used-clause-cause
returns-in_err-used-clause-cause g c =
    let p = err_from_is_err_and c.from_residual-in_err-used.result c.from_residual-in_err-used.ensures.1 in
    rw (p.1, p.2) (stopped_after (opened_only c.in_ok-current.ensures.opened) c.in_err-used.ensures.cause)

pub overflow_sub-free : goal.overflow_sub-free
overflow_sub-free g c =
    let small = used_small c.requires.new c.in_ok-current.ensures.opened c.if-current-segment.false c.in_ok-used.ensures.word c.pass_knows.ensures in
    omega (arith, small)

pub returns-then-free-ge-FULL_BELOW-clause-left : goal.returns-then-free-ge-FULL_BELOW-clause-left
returns-then-free-ge-FULL_BELOW-clause-left g c =
    roomy c.requires.new c.in_ok-current.ensures.opened c.if-current-segment.false c.in_ok-used.ensures.word c.pass_knows.ensures
    (32768 - c.in_ok-used.used) refl c.if-free-ge-FULL_BELOW.true

pub fresh_segment-requires-clause-grows : goal.fresh_segment-requires-clause-grows
fresh_segment-requires-clause-grows g c =
    may_grow c.requires.new c.in_ok-current.ensures.opened c.if-current-segment.false c.in_ok-used.ensures.word c.pass_knows.ensures

pub fresh_segment-requires-clause-full : goal.fresh_segment-requires-clause-full
fresh_segment-requires-clause-full g c =
    own_full c.requires.new c.in_ok-current.ensures.opened c.if-current-segment.false c.in_ok-used.ensures.word c.pass_knows.ensures
    (32768 - c.in_ok-used.used) refl c.if-free-ge-FULL_BELOW.false

pub returns-in_err-fresh-clause-cause : goal.returns-in_err-fresh-clause-cause
returns-in_err-fresh-clause-cause g c =
    let p = err_from_is_err_and c.from_residual-in_err-fresh.result c.from_residual-in_err-fresh.ensures.1 in
    rw (p.1, p.2) (stopped_after (only_reads_then (opened_only c.in_ok-current.ensures.opened) c.in_ok-used.ensures.word.only) c.in_err-fresh.ensures.cause)

pub returns-clause-left : goal.returns-clause-left
returns-clause-left g c =
    left c.requires.new c.in_ok-current.ensures.opened c.if-current-segment.false c.in_ok-used.ensures.word c.pass_knows.ensures
    {free = 32768 - c.in_ok-used.used} c.requires.lane refl c.if-free-ge-FULL_BELOW.false c.in_ok-fresh.ensures.fresh
