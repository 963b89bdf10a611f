use Rattle.std.proofs.Common.{arith}
use Rattle.std.proofs.lemmas.Grind.{common_steps}
use Rattle.mail_answers.specs.Sending.{sink_seen}
use Rattle.ring_replay.specs.Outcome.{source_seen}
use Rattle.mail_search.proofs.Answered.{lines_sent}
use Rattle.mail_search.proofs.running.answered.Goals as goal

pub returns-clause-answered : goal.returns-clause-answered
returns-clause-answered g c =
    let source = source_seen g.S.Source.left g.S.Source.faults in
    let sink = sink_seen g.K.Sink.held g.K.Sink.faults g.K.Sink.wants in
    let asked = c.args.asked.now in
    lines_sent g.K.Sink.offered asked.generate asked.report asked.queries.items (source c.args.source.now) (source c.searched_lists.new.source)
    (sink c.args.sink.now) (sink c.answer_lists.new.sink) c.in_ok-lists.lists c.in_ok-lists.ensures.listed c.answer_lists.result c.answer_lists.ensures

pub answer_lists-requires-clause-messages : goal.answer_lists-requires-clause-messages
answer_lists-requires-clause-messages g c κs within = grind (arith, common_steps)
