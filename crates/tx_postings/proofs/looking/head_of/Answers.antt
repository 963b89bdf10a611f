-- What is known of a lane, or is read.
use Rattle.std.proofs.Common.{arith}
use Rattle.std.proofs.lemmas.Grind.{elements}
use Rattle.tx_heap.proofs.lemmas.Stops.{stopped_after}
use Rattle.tx_model.proofs.lemmas.Attempts.{only_reads_then}
use Rattle.tx_buckets.proofs.lemmas.Opened.{opened_only}
use Rattle.std.proofs.lemmas.Result.{err_from_is_err_and}
use Rattle.tx_postings.proofs.LookSteps.{head_known, head_read}
use Rattle.tx_postings.proofs.looking.head_of.Goals as goal

pub returns-in_err-free-in-None-clause-cause : goal.returns-in_err-free-in-None-clause-cause
returns-in_err-free-in-None-clause-cause g c =
    let p = err_from_is_err_and c.from_residual-in_err-free-in-None.result c.from_residual-in_err-free-in-None.ensures.1 in
    rw (p.1, p.2) (stopped_after (opened_only c.in_ok-segment-in-None.ensures.opened) c.in_err-free-in-None.ensures.cause)

pub returns-in_err-keys-in-None-clause-cause : goal.returns-in_err-keys-in-None-clause-cause
returns-in_err-keys-in-None-clause-cause g c =
    let p = err_from_is_err_and c.from_residual-in_err-keys-in-None.result c.from_residual-in_err-keys-in-None.ensures.1 in
    let only = only_reads_then (opened_only c.in_ok-segment-in-None.ensures.opened) c.in_ok-free-in-None.ensures.word.only in
    rw (p.1, p.2) (stopped_after only c.in_err-keys-in-None.ensures.cause)

pub returns-in_err-cells-in-None-clause-cause : goal.returns-in_err-cells-in-None-clause-cause
returns-in_err-cells-in-None-clause-cause g c =
    let p = err_from_is_err_and c.from_residual-in_err-cells-in-None.result c.from_residual-in_err-cells-in-None.ensures.1 in
    let only = only_reads_then (opened_only c.in_ok-segment-in-None.ensures.opened) c.in_ok-free-in-None.ensures.word.only in
    rw (p.1, p.2) (stopped_after (only_reads_then only c.in_ok-keys-in-None.ensures.word.only) c.in_err-cells-in-None.ensures.cause)

pub returns-in-Some-clause-head : goal.returns-in-Some-clause-head
returns-in-Some-clause-head g c = head_known c.requires.active c.in-Some.is (c.requires.known c.in-Some.head c.in-Some.is)

pub returns-in_ok-cells-in-None-clause-head : goal.returns-in_ok-cells-in-None-clause-head
returns-in_ok-cells-in-None-clause-head g c =
    head_read c.in-None.is c.in_ok-segment-in-None.ensures.opened c.in_ok-free-in-None.ensures.word c.in_ok-keys-in-None.ensures.word
    c.in_ok-cells-in-None.ensures.word

pub read_word-requires-clause-opened : goal.read_word-requires-clause-opened
read_word-requires-clause-opened g c = grind (arith, elements)
