-- The lane word names an open segment.
use Rattle.std.proofs.Common.{◌-◌, ◌∙◌, ap, arith}
use Rattle.std.proofs.lemmas.Result.{err_from_is_err_and}
use Rattle.tx_model.proofs.lemmas.Attempts.{read_only}
use Rattle.tx_heap.specs.Layout.{Sizes, sizes_of, gate_at}
use Rattle.tx_heap.proofs.OpenSteps.{made_many, may_read_plain, number_within, opened}
use Rattle.tx_heap.proofs.lemmas.Stops.{stopped_reading, stopped_after}
use Rattle.tx_heap.proofs.segments.open_segment.Goals as goal

pub read-requires-clause-rule : goal.read-requires-clause-rule
read-requires-clause-rule g c =
    may_read_plain c.made_well.ensures (g.M.TxMemory.attempt c.args.pass.now) c.lane.result (omega (arith, c.lane.ensures, c.requires.lane))

pub returns-in_err-number-clause-cause : goal.returns-in_err-number-clause-cause
returns-in_err-number-clause-cause g c =
    let p = err_from_is_err_and c.from_residual.result c.from_residual.ensures.1 in
    rw (p.1, p.2)
    (stopped_reading _ c.pass_knows.ensures c.requires.active c.in_err-number.ensures.ended c.in_err-number.ensures.cause_stop)

pub overflow_sub-segment : goal.overflow_sub-segment
overflow_sub-segment g c =
    (number_within c.requires.lane c.requires.index c.pass_knows.ensures c.requires.active c.lane.ensures c.in_ok-number.ensures.read c.pass_knows-2.ensures).0

pub gate-requires : goal.gate-requires
gate-requires g c =
    let within = number_within c.requires.lane c.requires.index c.pass_knows.ensures c.requires.active c.lane.ensures c.in_ok-number.ensures.read
    c.pass_knows-2.ensures in
    let many = ap (λ (sizes : Sizes). sizes.segments) (c.plan-plan.ensures.plan ∙ ap sizes_of c.sense.ensures) in
    omega (arith, within.0, within.1, many)

pub read-requires-2-clause-within : goal.read-requires-2-clause-within
read-requires-2-clause-within g c =
    let within = number_within c.requires.lane c.requires.index c.pass_knows.ensures c.requires.active c.lane.ensures c.in_ok-number.ensures.read
    c.pass_knows-2.ensures in
    let at = c.gate.ensures ∙ ap (λ (sizes : Sizes). gate_at sizes (c.in_ok-number.number - 1)) (c.plan-plan.ensures.plan ∙ ap sizes_of c.sense.ensures) in
    omega (arith, at, within.0, within.1, made_many c.made_well.ensures)

pub read-requires-2-clause-rule : goal.read-requires-2-clause-rule
read-requires-2-clause-rule g c =
    let within = number_within c.requires.lane c.requires.index c.pass_knows.ensures c.requires.active c.lane.ensures c.in_ok-number.ensures.read
    c.pass_knows-2.ensures in
    let at = c.gate.ensures ∙ ap (λ (sizes : Sizes). gate_at sizes (c.in_ok-number.number - 1)) (c.plan-plan.ensures.plan ∙ ap sizes_of c.sense.ensures) in
    may_read_plain c.made_well.ensures (g.M.TxMemory.attempt c.read.new.pass) c.gate.result (omega (arith, at, within.0, within.1))

pub returns-in_err-read-clause-cause : goal.returns-in_err-read-clause-cause
returns-in_err-read-clause-cause g c =
    let p = err_from_is_err_and c.from_residual-in_err-read.result c.from_residual-in_err-read.ensures.1 in
    rw (p.1, p.2)
    (stopped_after (read_only c.in_ok-number.ensures.read)
    (stopped_reading _ c.pass_knows-2.ensures c.in_ok-number.ensures.read.goes_on.active c.in_err-read.ensures.ended c.in_err-read.ensures.cause_stop))

pub returns-clause-opened : goal.returns-clause-opened
returns-clause-opened g c =
    opened c.requires.lane c.requires.index c.pass_knows.ensures c.requires.active c.lane.ensures c.in_ok-number.ensures.read c.pass_knows-2.ensures
    (c.gate.ensures ∙ ap (λ (sizes : Sizes). gate_at sizes (c.in_ok-number.number - 1)) (c.plan-plan.ensures.plan ∙ ap sizes_of c.sense.ensures))
    c.in_ok-read.ensures.read c.pass_knows-3.ensures
