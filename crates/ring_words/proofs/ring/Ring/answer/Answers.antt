-- The request goes on, or it was answered.
use Rattle.ring_words.proofs.Kept.{kept_after, answered_by}
use Rattle.ring_words.proofs.ring.Ring.answer.Goals as goal

pub loop-progress-preserved : goal.loop-progress-preserved
loop-progress-preserved g c =
    let ring = c.args.self.now.words.shared in
    let (seated, kept) = c.loop-progress.invariant in
    let step = c.step.ensures in (
      step.of,
      kept_after g.S.Sense.good g.S.Sense.budget ring.key ring.table_id c.args.pass.now c.loop-progress.pass c.step.new.pass c.step.result kept
          seated c.requires.short step.step step.steps c.in-Going.is,
    )

pub returns-in_default : goal.returns-in_default
returns-in_default g c =
    let ring = c.args.self.now.words.shared in
    let (seated, kept) = c.loop-progress.invariant in
    let step = c.step.ensures in
    record {
      of = step.of;
      answered = answered_by g.S.Sense.good g.S.Sense.budget ring.key ring.table_id c.args.pass.now c.loop-progress.pass c.step.new.pass
          c.step.result kept seated c.requires.short step.step step.steps c.in_default.not-Going;
      closed = step.ends.0 c.in_default.not-Going;
    }
