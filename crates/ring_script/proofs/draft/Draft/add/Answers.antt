-- A line is read as one kind.
use Rattle.ring_script.proofs.Tokens.{texts}
use Rattle.ring_script.proofs.Steps.{by_region, by_word, by_events, by_none}
use Rattle.ring_script.proofs.draft.Draft.add.Goals as goal

pub returns-in-Some : goal.returns-in-Some
returns-in-Some c =
    by_region c.args.limit c.args.self.now c.args.number (texts c.args.tokens.now) c.add_region.new.self c.in-Some.region c.add_region.result
    ((c.region_of.ensures c.in-Some.region).0 c.in-Some.is) c.add_region.ensures

pub returns-in-Some-word_of : goal.returns-in-Some-word_of
returns-in-Some-word_of c =
    by_word c.args.limit c.args.self.now c.args.number (texts c.args.tokens.now) c.add_word.new.self c.in-Some-word_of.word c.add_word.result
    ((c.word_of.ensures c.in-Some-word_of.word).0 c.in-Some-word_of.is) c.add_word.ensures

pub returns-in-Some-asked_of : goal.returns-in-Some-asked_of
returns-in-Some-asked_of c =
    by_events c.args.limit c.args.self.now c.args.number (texts c.args.tokens.now) c.add_events.new.self c.in-Some-asked_of.asked c.add_events.result
    ((c.asked_of.ensures c.in-Some-asked_of.asked).0 c.in-Some-asked_of.is) c.add_events.ensures

pub returns-in-None : goal.returns-in-None
returns-in-None c =
    by_none c.args.limit c.args.self.now c.args.number (texts c.args.tokens.now) c.args.self.now
    (λ r line. absurd (cc ((c.region_of.ensures r).1 line, c.in_default.is)))
    (λ w line. absurd (cc ((c.word_of.ensures w).1 line, c.in_default-word_of.is)))
    (λ a line. absurd (cc ((c.asked_of.ensures a).1 line, c.in-None.is)))
