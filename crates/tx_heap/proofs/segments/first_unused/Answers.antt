-- The pool names an unused segment.
use Rattle.std.proofs.Common.{◌∙◌, ap, arith}
use Rattle.std.proofs.lemmas.Result.{err_from_is_err_and}
use Rattle.tx_model.proofs.lemmas.Attempts.{read_only}
use Rattle.tx_heap.specs.Layout.{Sizes, sizes_of, gate_at}
use Rattle.tx_heap.proofs.OpenSteps.{made_many, may_read_plain}
use Rattle.tx_heap.proofs.FreshSteps.{fresh_within, found}
use Rattle.tx_heap.proofs.lemmas.Stops.{stopped_reading, stopped_after}
use Rattle.tx_heap.proofs.segments.first_unused.Goals as goal

pub read-requires-clause-rule : goal.read-requires-clause-rule
read-requires-clause-rule g c = may_read_plain c.made_well.ensures (g.M.TxMemory.attempt c.args.pass.now) 0 (omega arith)

pub returns-in_err-fresh-clause-cause : goal.returns-in_err-fresh-clause-cause
returns-in_err-fresh-clause-cause g c =
    let p = err_from_is_err_and c.from_residual.result c.from_residual.ensures.1 in
    rw (p.1, p.2)
    (stopped_reading _ c.pass_knows.ensures c.requires.active c.in_err-fresh.ensures.ended c.in_err-fresh.ensures.cause_stop)

pub gate-requires : goal.gate-requires
gate-requires g c =
    let within = fresh_within c.made_well.ensures c.requires.index c.requires.unused c.pass_knows.ensures c.requires.active c.in_ok-fresh.ensures.read
    c.pass_knows-2.ensures in
    let many = ap (λ (sizes : Sizes). sizes.segments) (c.plan-plan.ensures.plan ∙ ap sizes_of c.sense.ensures) in
    omega (arith, within, many)

pub read-requires-2-clause-within : goal.read-requires-2-clause-within
read-requires-2-clause-within g c =
    let within = fresh_within c.made_well.ensures c.requires.index c.requires.unused c.pass_knows.ensures c.requires.active c.in_ok-fresh.ensures.read
    c.pass_knows-2.ensures in
    let at = c.gate.ensures ∙ ap (λ (sizes : Sizes). gate_at sizes c.in_ok-fresh.fresh) (c.plan-plan.ensures.plan ∙ ap sizes_of c.sense.ensures) in
    omega (arith, at, within, made_many c.made_well.ensures)

pub read-requires-2-clause-rule : goal.read-requires-2-clause-rule
read-requires-2-clause-rule g c =
    let within = fresh_within c.made_well.ensures c.requires.index c.requires.unused c.pass_knows.ensures c.requires.active c.in_ok-fresh.ensures.read
    c.pass_knows-2.ensures in
    let at = c.gate.ensures ∙ ap (λ (sizes : Sizes). gate_at sizes c.in_ok-fresh.fresh) (c.plan-plan.ensures.plan ∙ ap sizes_of c.sense.ensures) in
    may_read_plain c.made_well.ensures (g.M.TxMemory.attempt c.read.new.pass) c.gate.result (omega (arith, at, within))

pub returns-in_err-read-clause-cause : goal.returns-in_err-read-clause-cause
returns-in_err-read-clause-cause g c =
    let p = err_from_is_err_and c.from_residual-in_err-read.result c.from_residual-in_err-read.ensures.1 in
    rw (p.1, p.2)
    (stopped_after (read_only c.in_ok-fresh.ensures.read)
    (stopped_reading _ c.pass_knows-2.ensures c.in_ok-fresh.ensures.read.goes_on.active c.in_err-read.ensures.ended c.in_err-read.ensures.cause_stop))

pub returns-clause-found : goal.returns-clause-found
returns-clause-found g c =
    found c.made_well.ensures c.requires.index c.requires.unused c.pass_knows.ensures c.requires.active c.in_ok-fresh.ensures.read c.pass_knows-2.ensures
    (c.gate.ensures ∙ ap (λ (sizes : Sizes). gate_at sizes c.in_ok-fresh.fresh) (c.plan-plan.ensures.plan ∙ ap sizes_of c.sense.ensures))
    c.in_ok-read.ensures.read c.pass_knows-3.ensures
