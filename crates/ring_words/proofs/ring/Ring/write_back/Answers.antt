-- The turn goes on, or it was answered.
use Rattle.ring_words.proofs.Turning.{turning_after, turn_answered}
use Rattle.ring_words.proofs.ring.Ring.write_back.Goals as goal

pub loop-progress-preserved : goal.loop-progress-preserved
loop-progress-preserved g c =
    let ring = c.args.self.now.words.shared in
    let (seated, turning) = c.loop-progress.invariant in
    let step = c.turn_step.ensures in (
      step.of,
      turning_after g.S.Sense.good g.S.Sense.budget ring.key ring.table_id c.args.pass.now c.loop-progress.pass c.turn_step.new.pass c.turn_step.result
          turning seated step.step c.in-Going-turn_step.is step.steps,
    )

pub returns-in_default : goal.returns-in_default
returns-in_default g c =
    let opened = c.open_turn.ensures in
    record { of = opened.of; answered = opened.answered c.in_default.not-Going; closed = opened.closed c.in_default.not-Going }

pub returns-in_default-turn_step : goal.returns-in_default-turn_step
returns-in_default-turn_step g c =
    let ring = c.args.self.now.words.shared in
    let (seated, turning) = c.loop-progress.invariant in
    let step = c.turn_step.ensures in
    record {
      of = step.of;
      answered = turn_answered g.S.Sense.good g.S.Sense.budget ring.key ring.table_id c.args.pass.now c.loop-progress.pass c.turn_step.new.pass
          c.turn_step.result turning seated step.step c.in_default-turn_step.not-Going step.steps;
      closed = step.ends.0 c.in_default-turn_step.not-Going;
    }
