-- The lines so far were sent, and the pass is as it was.
use Rattle.std.proofs.Common.{◌≡◌, length, take}
use Rattle.std.specs.List.{concat}
use Rattle.mail_answers.specs.Complete.{IsAsBefore}
use Rattle.mail_answers.specs.Hits.{lines_in}
use Rattle.mail_answers.specs.Sending.{SendsAll, sink_seen}
use Rattle.mail_answers.proofs.answering.answer_queries.Given as goal

abbrev pub invariant-loop-query : goal.invariant-loop-query
invariant-loop-query g l =
    let sink = g.K.Sink in
    let seen = sink_seen sink.held sink.faults sink.wants in
    let lines = lines_in (g.M.TxMemory.made l.mem).sense (take l.query-index l.queries) in
    record {
      of : g.M.TxMemory.of l.mem l.pass;
      as_before : IsAsBefore (g.M.TxMemory.view l.fn.pass) (g.M.TxMemory.view l.pass);
      sent : SendsAll sink.offered (seen l.fn.sink) (seen l.sink) lines;
      counted : l.sent ≡ length (concat lines);
    }
