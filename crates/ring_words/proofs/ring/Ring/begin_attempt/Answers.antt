-- The attempt begins at once, or from the newest entry on.
use Rattle.std.proofs.Common.{sym, subst, rules}
use Rattle.ring_core.specs.Shape.{IsShape}
use Rattle.ring_words.proofs.Staged.{first_seated, first_answers, newest_seated, second_seated, second_answers, second_answered}
use Rattle.ring_words.proofs.ring.Ring.begin_attempt.Goals as goal

pub returns-then-top-eq0-clause-of : goal.returns-then-top-eq0-clause-of
returns-then-top-eq0-clause-of g c =
    let ring = c.args.self.now in
    first_seated g.S.Sense.good g.S.Sense.budget ring.words.shared.key ring.words.shared.table_id
    (subst IsShape (sym ring.told.1) ring.limits) c.args.pass.now c.requires.of c.load_at-top.new.pass c.load_at-top.ensures.local c.load_at-top.result
    c.load_at-top.ensures.found
    c.absorb_at.new.self c.absorb_at.result c.absorb_at.ensures.step c.absorb_at.ensures.shape c.absorb_at.ensures.steps

pub returns-then-top-eq0-clause-answered : goal.returns-then-top-eq0-clause-answered
returns-then-top-eq0-clause-answered g c =
    let ring = c.args.self.now in
    first_answers g.S.Sense.good g.S.Sense.budget ring.words.shared.key ring.words.shared.table_id
    (subst IsShape (sym ring.told.1) ring.limits) c.args.pass.now c.requires.of c.load_at-top.new.pass c.load_at-top.ensures.local c.load_at-top.result
    c.load_at-top.ensures.found
    c.absorb_at.new.self c.absorb_at.result c.absorb_at.ensures.step c.absorb_at.ensures.shape c.absorb_at.ensures.steps c.if-top-eq0.true

pub load_at-tag-requires-clause-of : goal.load_at-tag-requires-clause-of
load_at-tag-requires-clause-of g c =
    let ring = c.args.self.now in
    newest_seated g.S.Sense.good g.S.Sense.budget ring.words.shared.key ring.words.shared.table_id
    (subst IsShape (sym ring.told.1) ring.limits) c.args.pass.now c.requires.of c.load_at-top.new.pass c.load_at-top.ensures.local c.load_at-top.result
    c.load_at-top.ensures.found c.if-top-eq0.false

pub answer-requires-clause-of : goal.answer-requires-clause-of
answer-requires-clause-of g c =
    let ring = c.args.self.now in
    second_seated g.S.Sense.good g.S.Sense.budget ring.words.shared.key ring.words.shared.table_id
    (subst IsShape (sym ring.told.1) ring.limits) c.args.pass.now c.requires.of c.load_at-top.new.pass c.load_at-top.ensures.local c.load_at-top.result
    c.load_at-top.ensures.found c.if-top-eq0.false
    c.load_at-tag.new.pass c.load_at-tag.ensures.local c.load_at-tag.result c.load_at-tag.ensures.found
    c.take_at.new.self c.take_at.result c.take_at.ensures.step c.take_at.ensures.shape c.take_at.ensures.steps

pub returns-in-Going-clause-answered : goal.returns-in-Going-clause-answered
returns-in-Going-clause-answered g c =
    let ring = c.args.self.now in
    second_answered g.S.Sense.good g.S.Sense.budget ring.words.shared.key ring.words.shared.table_id
    (subst IsShape (sym ring.told.1) ring.limits) c.args.pass.now c.requires.of c.load_at-top.new.pass c.load_at-top.ensures.local c.load_at-top.result
    c.load_at-top.ensures.found c.if-top-eq0.false
    c.load_at-tag.new.pass c.load_at-tag.ensures.local c.load_at-tag.result c.load_at-tag.ensures.found
    c.take_at.new.self c.take_at.result c.take_at.ensures.step c.take_at.ensures.shape c.take_at.ensures.steps c.in-Going.is
    c.answer.new.pass c.answer.result c.answer.ensures.answered

pub returns-in_default : goal.returns-in_default
returns-in_default g c =
    let ring = c.args.self.now in
    record {
      of = second_seated g.S.Sense.good g.S.Sense.budget ring.words.shared.key ring.words.shared.table_id
          (subst IsShape (sym ring.told.1) ring.limits) c.args.pass.now c.requires.of c.load_at-top.new.pass c.load_at-top.ensures.local c.load_at-top.result
          c.load_at-top.ensures.found c.if-top-eq0.false
          c.load_at-tag.new.pass c.load_at-tag.ensures.local c.load_at-tag.result c.load_at-tag.ensures.found
          c.take_at.new.self c.take_at.result c.take_at.ensures.step c.take_at.ensures.shape c.take_at.ensures.steps;
      answered = second_answers g.S.Sense.good g.S.Sense.budget ring.words.shared.key ring.words.shared.table_id
          (subst IsShape (sym ring.told.1) ring.limits) c.args.pass.now c.requires.of c.load_at-top.new.pass c.load_at-top.ensures.local c.load_at-top.result
          c.load_at-top.ensures.found c.if-top-eq0.false
          c.load_at-tag.new.pass c.load_at-tag.ensures.local c.load_at-tag.result c.load_at-tag.ensures.found
          c.take_at.new.self c.take_at.result c.take_at.ensures.step c.take_at.ensures.shape c.take_at.ensures.steps c.in_default.not-Going;
      closed = c.take_at.ensures.ends.0 c.in_default.not-Going;
    }

pub take_at-requires-clause-fits : goal.take_at-requires-clause-fits
take_at-requires-clause-fits g c = search rules
