-- The segment's messages, and its link.
use Rattle.std.proofs.Common.{◌∙◌, ap, arith}
use Rattle.std.proofs.lemmas.Result.{err_from_is_err_and}
use Rattle.tx_heap.specs.Layout.{Sizes, sizes_of, link_at}
use Rattle.tx_heap.proofs.lemmas.Stops.{stopped_reading, stopped_after}
use Rattle.tx_postings.proofs.ListSteps.{may_read_plain, listed_to}
use Rattle.tx_postings.proofs.listing.list_to.Goals as goal

pub read-requires-clause-rule : goal.read-requires-clause-rule
read-requires-clause-rule g c =
    let at = c.link.ensures ∙ ap (λ (sizes : Sizes). link_at sizes c.args.segment) (c.plan-plan.ensures.plan ∙ ap sizes_of c.sense.ensures) in
    may_read_plain (g.M.TxMemory.attempt c.list_at.new.pass) c.link.result c.made_well.ensures (omega (arith, at, c.requires.within))

pub returns-in_err-read-clause-refused : goal.returns-in_err-read-clause-refused
returns-in_err-read-clause-refused g c =
    let p = err_from_is_err_and c.from_residual-in_err-read.result c.from_residual-in_err-read.ensures.1 in
    rw (p.1, p.2)
    (stopped_after c.in_ok-list_at.ensures.listed.only
    (stopped_reading _ c.pass_knows.ensures c.in_ok-list_at.ensures.listed.only.goes_on.active c.in_err-read.ensures.ended c.in_err-read.ensures.cause_stop))

pub returns-clause-listed : goal.returns-clause-listed
returns-clause-listed g c =
    listed_to c.requires.within c.in_ok-list_at.ensures.listed c.pass_knows.ensures
    (c.link.ensures ∙ ap (λ (sizes : Sizes). link_at sizes c.args.segment) (c.plan-plan.ensures.plan ∙ ap sizes_of c.sense.ensures)) c.in_ok-read.ensures.read
