-- The request goes on, or was answered by its last step.
use Rattle.ring_words.specs.Stamping.{by_load, by_swap}
use Rattle.ring_words.proofs.StampSteps.{stamps_after, loads_next}
use Rattle.ring_words.proofs.ring.Ring.stamp.Goals as goal

pub returns-in-SwapIndex-clause-answered : goal.returns-in-SwapIndex-clause-answered
returns-in-SwapIndex-clause-answered g c =
    let (seated, kept) = c.loop-from.invariant in
    by_swap c.loop-from.pass seated kept c.exchange.ensures.swapped c.exchange.ensures.steps

pub loop-from-preserved : goal.loop-from-preserved
loop-from-preserved g c =
    let ring = c.args.self.now.words.shared in
    let (seated, kept) = c.loop-from.invariant in
    let step = c.step.ensures in (
      step.of,
      stamps_after g.S.Sense.good g.S.Sense.budget ring.key ring.table_id c.args.pass.now c.loop-from.pass c.step.new.pass c.step.result kept seated
          step.step step.steps (loads_next c.args.pass.now c.loop-from.pass kept c.next.result c.next.ensures.action c.in_default-next.not-SwapIndex)
          c.in-Going-step.is,
    )

pub returns-in_default-step : goal.returns-in_default-step
returns-in_default-step g c =
    let (seated, kept) = c.loop-from.invariant in
    let step = c.step.ensures in
    record {
      of = step.of;
      answered = by_load c.loop-from.pass seated kept step.step step.steps
          (loads_next c.args.pass.now c.loop-from.pass kept c.next.result c.next.ensures.action c.in_default-next.not-SwapIndex)
          c.in_default-step.not-Going;
      closed = step.ends.0 c.in_default-step.not-Going;
    }

pub returns-in_default : goal.returns-in_default
returns-in_default g c =
    let straight = c.stamp_straight.ensures in
    record { of = straight.of; answered = straight.answered c.in_default.not-Going; closed = straight.closed c.in_default.not-Going }
