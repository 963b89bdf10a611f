-- The attempt began, by the answer of its last step.
use Rattle.std.proofs.Common.{sym, subst}
use Rattle.ring_core.specs.Shape.{IsShape}
use Rattle.ring_words.proofs.BeginCalls.{begin_seated, begin_counted, begin_few, begin_began}
use Rattle.ring_words.proofs.Knows.{pass_knows}
use Rattle.ring_words.proofs.ring.Ring.begin.Goals as goal

pub begin_attempt-requires : goal.begin_attempt-requires
begin_attempt-requires g c =
    let ring = c.args.self.now in
    record {
      of = begin_seated g.S.Sense.good g.S.Sense.budget ring.words.shared.key ring.words.shared.table_id c.args.pass.now c.requires.of.seated
          c.requires.of.closed c.move_keeps.ensures (subst IsShape (sym ring.told.1) ring.limits) c.callers_change.ensures.becomes c.requires.idle;
    }

pub returns-clause-of : goal.returns-clause-of
returns-clause-of g c =
    let ring = c.args.self.now in
    let shared = ring.words.shared in
    pass_knows g.S.Sense.allows g.S.Sense.good g.S.Sense.budget shared.key shared.table_id c.begin_attempt.new.pass c.requires.of.is_made
    c.begin_attempt.ensures.of c.begin_attempt.ensures.closed
    (begin_counted g.S.Sense.good g.S.Sense.budget shared.key shared.table_id c.args.pass.now c.requires.of.seated
    c.requires.of.closed c.move_keeps.ensures (subst IsShape (sym ring.told.1) ring.limits) c.callers_change.ensures.becomes c.requires.idle
    c.begin_attempt.new.pass c.begin_attempt.result c.begin_attempt.ensures.answered c.requires.of.is_pass.mine c.requires.of.counted)

pub returns-clause-began : goal.returns-clause-began
returns-clause-began g c =
    let ring = c.args.self.now in
    begin_began g.S.Sense.good g.S.Sense.budget ring.words.shared.key ring.words.shared.table_id c.args.pass.now c.requires.of.seated
    c.requires.of.closed c.move_keeps.ensures (subst IsShape (sym ring.told.1) ring.limits) c.callers_change.ensures.becomes c.requires.idle
    c.begin_attempt.new.pass c.begin_attempt.result c.begin_attempt.ensures.answered

pub returns-clause-few : goal.returns-clause-few
returns-clause-few g c =
    let ring = c.args.self.now in
    begin_few g.S.Sense.good g.S.Sense.budget ring.words.shared.key ring.words.shared.table_id c.args.pass.now c.requires.of.seated
    c.requires.of.closed c.move_keeps.ensures (subst IsShape (sym ring.told.1) ring.limits) c.callers_change.ensures.becomes c.requires.idle
    c.begin_attempt.new.pass c.begin_attempt.result c.begin_attempt.ensures.answered
