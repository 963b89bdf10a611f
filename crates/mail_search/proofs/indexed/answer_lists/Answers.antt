use Rattle.std.proofs.Common.{◌++◌, ◌∙◌, ℕ, List, Result, Err, ap, subst}
use Rattle.mail_words.specs.Key.{KeyNumbers}
use Rattle.mail_answers.specs.Hits.{lines_in}
use Rattle.mail_answers.specs.Sending.{SendsAll, sink_seen}
use Rattle.mail_answers.specs.Sent.{AreSent}
use Rattle.mail_index.specs.Indexed.{IsIndexOf}
use Rattle.mail_index.proofs.lemmas.Still.{still_indexed}
use Rattle.mail_search.specs.Outcome.{IsSent}
use Rattle.mail_search.specs.Reports.{Closed, report_of}
use Rattle.mail_search.specs.Statuses.{status_of_writing}
use Rattle.mail_search.specs.declared.status.Status.{Status}
use Rattle.mail_search.proofs.Sent.{handed_on, answers_refused, all_sent}
use Rattle.mail_search.proofs.indexed.answer_lists.Goals as goal

pub close_index-closed-requires-clause-indexed : goal.close_index-closed-requires-clause-indexed
close_index-closed-requires-clause-indexed g c =
    still_indexed _ c.in_ok-mem.ensures.indexed c.answer_queries-sent.ensures.idle c.answer_queries-sent.ensures.whole c.answer_queries-sent.ensures.no_commit

pub returns-in_err-sent : goal.returns-in_err-sent
returns-in_err-sent g c =
    let sink = sink_seen g.K.Sink.held g.K.Sink.faults g.K.Sink.wants in
    let a = sink c.args.sink.now in
    let b = sink c.answer_queries-sent.new.sink in
    let lists = c.args.lists in
    let answers = lines_in lists c.args.asked.now.queries.items in
    let report = c.args.asked.now.report in
    let error = c.in_err-sent.field-0.0 in
    let of_lists = c.in_ok-mem.ensures.indexed.sense in
    let index = subst (λ (ls : List (List KeyNumbers)). IsIndexOf ls c.close_index-closed.result) of_lists c.close_index-closed.ensures in
    let same = ap (λ (ls : List (List KeyNumbers)). lines_in ls c.deref.result.now) of_lists ∙ ap (lines_in lists) c.deref.ensures.value in
    let sent = subst (λ (ls : List (List ℕ)). AreSent g.K.Sink.offered a b ls {T = Unit {0}} (Err error)) same c.in_err-sent.ensures.sent in
    handed_on (λ (r : Result Closed Status). IsSent g.K.Sink.offered a b lists (λ closed. answers ++ report_of report closed) r)
    c.from_residual-in_err-sent.result (status_of_writing error) c.from_residual-in_err-sent.ensures.1
    (answers_refused g.K.Sink.offered lists answers report a b c.close_index-closed.result index error sent)

pub returns : goal.returns
returns g c =
    let sink = sink_seen g.K.Sink.held g.K.Sink.faults g.K.Sink.wants in
    let a = sink c.args.sink.now in
    let b = sink c.answer_queries-sent.new.sink in
    let lists = c.args.lists in
    let of_lists = c.in_ok-mem.ensures.indexed.sense in
    let index = subst (λ (ls : List (List KeyNumbers)). IsIndexOf ls c.close_index-closed.result) of_lists c.close_index-closed.ensures in
    let same = ap (λ (ls : List (List KeyNumbers)). lines_in ls c.deref.result.now) of_lists ∙ ap (lines_in lists) c.deref.ensures.value in
    let sent = subst (λ (ls : List (List ℕ)). SendsAll g.K.Sink.offered a b ls) same c.in_ok-sent.ensures.sent in
    all_sent g.K.Sink.offered lists (lines_in lists c.args.asked.now.queries.items) c.args.asked.now.report a b (sink c.report_on.new.sink)
    c.close_index-closed.result index sent c.report_on.result c.report_on.ensures
