-- The read is answered at once where the index is the start, and goes on step by step where it isn't.
use Rattle.std.proofs.Common.{◌∙◌}
use Rattle.ring_words.proofs.Staged.{check_seated, current_seated, current_answers, newer_seated, newer_answers, newer_answered}
use Rattle.ring_words.proofs.ring.Ring.read_word.Goals as goal

pub load_at-index-requires-clause-of : goal.load_at-index-requires-clause-of
load_at-index-requires-clause-of g c =
    let ring = c.args.self.now in
    check_seated g.S.Sense.good g.S.Sense.budget ring.words.shared.key ring.words.shared.table_id c.args.pass.now c.args.addr
    c.requires.closed c.requires.of c.load_at-value.new.pass c.load_at-value.ensures.local c.load_at-value.result c.load_at-value.ensures.found
    c.absorb_read.new.self c.absorb_read.ensures

pub returns-then-index-start-clause-of : goal.returns-then-index-start-clause-of
returns-then-index-start-clause-of g c =
    let ring = c.args.self.now in
    current_seated g.S.Sense.good g.S.Sense.budget ring.words.shared.key ring.words.shared.table_id c.args.pass.now c.args.addr
    c.requires.closed c.requires.of c.load_at-value.new.pass c.load_at-value.ensures.local c.load_at-value.result c.load_at-value.ensures.found
    c.absorb_read.new.self c.absorb_read.ensures
    c.load_at-index.new.pass c.load_at-index.ensures.local c.load_at-index.result c.load_at-index.ensures.found (c.if-index-start.true ∙ c.start.ensures)

pub returns-then-index-start-clause-answered : goal.returns-then-index-start-clause-answered
returns-then-index-start-clause-answered g c =
    let ring = c.args.self.now in
    current_answers g.S.Sense.good g.S.Sense.budget ring.words.shared.key ring.words.shared.table_id c.args.pass.now c.args.addr
    c.requires.closed c.requires.of c.load_at-value.new.pass c.load_at-value.ensures.local c.load_at-value.result c.load_at-value.ensures.found
    c.absorb_read.new.self c.absorb_read.ensures
    c.load_at-index.new.pass c.load_at-index.ensures.local c.load_at-index.result c.load_at-index.ensures.found (c.if-index-start.true ∙ c.start.ensures)

pub answer-requires-clause-of : goal.answer-requires-clause-of
answer-requires-clause-of g c =
    let ring = c.args.self.now in
    newer_seated g.S.Sense.good g.S.Sense.budget ring.words.shared.key ring.words.shared.table_id c.args.pass.now c.args.addr
    c.requires.closed c.requires.of c.load_at-value.new.pass c.load_at-value.ensures.local c.load_at-value.result c.load_at-value.ensures.found
    c.absorb_read.new.self c.absorb_read.ensures
    c.load_at-index.new.pass c.load_at-index.ensures.local c.load_at-index.result c.load_at-index.ensures.found
    c.absorb_at.new.self c.absorb_at.result c.absorb_at.ensures.step c.absorb_at.ensures.shape c.absorb_at.ensures.steps

pub returns-in-Going-clause-answered : goal.returns-in-Going-clause-answered
returns-in-Going-clause-answered g c =
    let ring = c.args.self.now in
    newer_answered g.S.Sense.good g.S.Sense.budget ring.words.shared.key ring.words.shared.table_id c.args.pass.now c.args.addr
    c.requires.closed c.requires.of c.load_at-value.new.pass c.load_at-value.ensures.local c.load_at-value.result c.load_at-value.ensures.found
    c.absorb_read.new.self c.absorb_read.ensures
    c.load_at-index.new.pass c.load_at-index.ensures.local c.load_at-index.result c.load_at-index.ensures.found
    c.absorb_at.new.self c.absorb_at.result c.absorb_at.ensures.step c.absorb_at.ensures.shape c.absorb_at.ensures.steps c.in-Going.is
    c.answer.new.pass c.answer.result c.answer.ensures.answered

pub returns-in_default : goal.returns-in_default
returns-in_default g c =
    let ring = c.args.self.now in
    record {
      of = newer_seated g.S.Sense.good g.S.Sense.budget ring.words.shared.key ring.words.shared.table_id c.args.pass.now c.args.addr
          c.requires.closed c.requires.of c.load_at-value.new.pass c.load_at-value.ensures.local c.load_at-value.result c.load_at-value.ensures.found
          c.absorb_read.new.self c.absorb_read.ensures
          c.load_at-index.new.pass c.load_at-index.ensures.local c.load_at-index.result c.load_at-index.ensures.found
          c.absorb_at.new.self c.absorb_at.result c.absorb_at.ensures.step c.absorb_at.ensures.shape c.absorb_at.ensures.steps;
      answered = newer_answers g.S.Sense.good g.S.Sense.budget ring.words.shared.key ring.words.shared.table_id c.args.pass.now c.args.addr
          c.requires.closed c.requires.of c.load_at-value.new.pass c.load_at-value.ensures.local c.load_at-value.result c.load_at-value.ensures.found
          c.absorb_read.new.self c.absorb_read.ensures
          c.load_at-index.new.pass c.load_at-index.ensures.local c.load_at-index.result c.load_at-index.ensures.found
          c.absorb_at.new.self c.absorb_at.result c.absorb_at.ensures.step c.absorb_at.ensures.shape c.absorb_at.ensures.steps c.in_default.not-Going;
      closed = c.absorb_at.ensures.ends.0 c.in_default.not-Going;
    }
