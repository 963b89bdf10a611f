-- The segments of the key's lane, one after the other.
use Rattle.std.proofs.Common.{ℕ, ◌+◌, ◌∙◌, ap, arith}
use Rattle.std.proofs.lemmas.Result.{err_from_is_err_and}
use Rattle.tx_model.proofs.lemmas.Histories.{beginning_then}
use Rattle.tx_heap.proofs.lemmas.Stops.{stopped_reading}
use Rattle.tx_postings.proofs.CellSteps.{begins_with}
use Rattle.tx_postings.proofs.ListSteps.{lane_below, may_read_plain, going_begins, goes_within, goes_of_lane, going_on, going_falls, listed, not_listed}
use Rattle.tx_postings.proofs.listing.list.Goals as goal

pub read-requires-clause-rule : goal.read-requires-clause-rule
read-requires-clause-rule g c =
    let at = c.lane.ensures ∙ ap (λ (n : ℕ). 1 + n) c.lane_of.ensures.lane in
    may_read_plain (g.M.TxMemory.attempt c.args.pass.now) c.lane.result c.made_well.ensures (omega (arith, at, lane_below c.args.key.now))

pub returns-in_err-number-clause-refused : goal.returns-in_err-number-clause-refused
returns-in_err-number-clause-refused g c =
    let p = err_from_is_err_and c.from_residual.result c.from_residual.ensures.1 in
    rw (p.1, p.2) (stopped_reading _ c.pass_knows.ensures c.requires.active c.in_err-number.ensures.ended c.in_err-number.ensures.cause_stop)

pub loop-number-init : goal.loop-number-init
loop-number-init g c = (
  c.in_ok-number.ensures.of,
  going_begins c.args.key.now c.args.into.now.items c.requires.none c.pass_knows.ensures c.requires.active
      (c.lane.ensures ∙ ap (λ (n : ℕ). 1 + n) c.lane_of.ensures.lane) c.in_ok-number.ensures.read c.pass_knows-2.ensures,
)

pub list_to-requires-clause-within : goal.list_to-requires-clause-within
list_to-requires-clause-within g c = goes_within c.requires.none c.loop-number.invariant.1 c.loop-number-test.true

pub list_to-requires-clause-of_lane : goal.list_to-requires-clause-of_lane
list_to-requires-clause-of_lane g c = goes_of_lane c.requires.none c.loop-number.invariant.1 c.loop-number-test.true

pub returns-in_err-number-2-clause-old_part : goal.returns-in_err-number-2-clause-old_part
returns-in_err-number-2-clause-old_part g c =
    let going = c.loop-number.invariant.1 in
    beginning_then _ _ _ (begins_with _ going.messages _ going.added) c.in_err-number-2.ensures.old_part

pub returns-in_err-number-2-clause-refused : goal.returns-in_err-number-2-clause-refused
returns-in_err-number-2-clause-refused g c =
    let p = err_from_is_err_and c.from_residual-in_err-number-2.result c.from_residual-in_err-number-2.ensures.1 in
    rw (p.1, p.2)
    (not_listed c.requires.none c.loop-number.invariant.1 c.loop-number-test.true
    (g.M.TxMemory.shows c.args.mem.now) _ _ _ c.in_err-number-2.field-0.0 c.in_err-number-2.ensures.refused)

pub loop-number-smaller : goal.loop-number-smaller
loop-number-smaller g c =
    going_falls c.requires.none c.loop-number.invariant.1 c.loop-number-test.true c.in_ok-number-2.ensures.listed c.pass_knows-in-loop-number.ensures

pub loop-number-preserved : goal.loop-number-preserved
loop-number-preserved g c = (
  c.in_ok-number-2.ensures.of,
  going_on c.requires.none c.loop-number.invariant.1 c.loop-number-test.true c.in_ok-number-2.ensures.listed c.pass_knows-in-loop-number.ensures,
)

pub returns-clause-listed : goal.returns-clause-listed
returns-clause-listed g c = listed c.requires.none c.loop-number.invariant.1 c.loop-number-test.false
