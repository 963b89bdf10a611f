-- The segment by its gate.
use Rattle.std.proofs.Common.{◌∙◌, ap, arith, refl}
use Rattle.std.proofs.lemmas.Result.{err_from_is_err_and}
use Rattle.tx_heap.specs.Layout.{Sizes, sizes_of, gate_at}
use Rattle.tx_heap.proofs.lemmas.Stops.{stopped_reading}
use Rattle.tx_postings.proofs.ListSteps.{may_read_plain, opened_by, sealed_at, passed_over, listed_open, not_listed_open}
use Rattle.tx_postings.proofs.listing.list_at.Goals as goal

pub read-requires-clause-rule : goal.read-requires-clause-rule
read-requires-clause-rule g c =
    let at = c.gate.ensures ∙ ap (λ (sizes : Sizes). gate_at sizes c.args.segment) (c.plan-plan.ensures.plan ∙ ap sizes_of c.sense.ensures) in
    may_read_plain (g.M.TxMemory.attempt c.args.pass.now) c.gate.result c.made_well.ensures (omega (arith, at, c.requires.within))

pub returns-in_err-gate-clause-refused : goal.returns-in_err-gate-clause-refused
returns-in_err-gate-clause-refused g c =
    let p = err_from_is_err_and c.from_residual.result c.from_residual.ensures.1 in
    rw (p.1, p.2) (stopped_reading _ c.pass_knows.ensures c.requires.active c.in_err-gate.ensures.ended c.in_err-gate.ensures.cause_stop)

pub list_open-requires-clause-opened : goal.list_open-requires-clause-opened
list_open-requires-clause-opened g c =
    opened_by c.requires.none c.requires.within c.pass_knows.ensures c.requires.active
    (c.gate.ensures ∙ ap (λ (sizes : Sizes). gate_at sizes c.args.segment) (c.plan-plan.ensures.plan ∙ ap sizes_of c.sense.ensures))
    c.in_ok-gate.ensures.read c.if-gate-eq-GATE_OPEN.true

pub returns-in_err-list_open-clause-refused : goal.returns-in_err-list_open-clause-refused
returns-in_err-list_open-clause-refused g c =
    let p = err_from_is_err_and c.from_residual-in_err-list_open.result c.from_residual-in_err-list_open.ensures.1 in
    rw (p.1, p.2)
    (not_listed_open c.requires.none c.requires.within c.pass_knows.ensures c.requires.active
    (c.gate.ensures ∙ ap (λ (sizes : Sizes). gate_at sizes c.args.segment) (c.plan-plan.ensures.plan ∙ ap sizes_of c.sense.ensures))
    c.in_ok-gate.ensures.read
    (g.M.TxMemory.shows c.args.mem.now) (g.M.TxMemory.view c.list_open.new.pass)
    (g.M.TxMemory.attempt c.list_open.new.pass) c.args.key.now c.args.into.now.items c.list_open.new.into.items c.in_err-list_open.field-0.0
    c.in_err-list_open.ensures.refused)

pub returns-then-gate-eq-GATE_OPEN-clause-listed : goal.returns-then-gate-eq-GATE_OPEN-clause-listed
returns-then-gate-eq-GATE_OPEN-clause-listed g c =
    listed_open c.requires.none c.requires.within c.pass_knows.ensures c.requires.active
    (c.gate.ensures ∙ ap (λ (sizes : Sizes). gate_at sizes c.args.segment) (c.plan-plan.ensures.plan ∙ ap sizes_of c.sense.ensures))
    c.in_ok-gate.ensures.read c.if-gate-eq-GATE_OPEN.true c.in_ok-list_open.ensures.listed

pub returns-then-gate-eq-GATE_SEALED-clause-refused : goal.returns-then-gate-eq-GATE_SEALED-clause-refused
returns-then-gate-eq-GATE_SEALED-clause-refused g c = (
  refl,
  sealed_at c.requires.none c.requires.within c.pass_knows.ensures c.requires.active
      (c.gate.ensures ∙ ap (λ (sizes : Sizes). gate_at sizes c.args.segment) (c.plan-plan.ensures.plan ∙ ap sizes_of c.sense.ensures))
      c.in_ok-gate.ensures.read c.args.key.now c.args.into.now.items c.if-gate-eq-GATE_SEALED.true,
)

pub returns-clause-listed : goal.returns-clause-listed
returns-clause-listed g c =
    passed_over c.requires.none c.requires.within c.pass_knows.ensures c.requires.active
    (c.gate.ensures ∙ ap (λ (sizes : Sizes). gate_at sizes c.args.segment) (c.plan-plan.ensures.plan ∙ ap sizes_of c.sense.ensures))
    c.in_ok-gate.ensures.read c.args.key.now c.requires.of_lane c.args.into.now.items c.if-gate-eq-GATE_OPEN.false c.if-gate-eq-GATE_SEALED.false
