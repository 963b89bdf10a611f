use Rattle.std.proofs.Common.{◌≡◌, ℕ, List, true, map, string_bytes, Result, Ok, Err, subst}
use Rattle.std.specs.declared.alloc.Global.{Global}
use Rattle.std.specs.declared.option.Option.{Option}
use Rattle.mail_answers.specs.Sending.{sink_seen}
use Rattle.ring_replay.specs.Outcome.{source_seen}
use Rattle.mail_search.specs.Outcome.{HasEnded, IsAsked}
use Rattle.mail_search.specs.Reports.{Closed}
use Rattle.mail_search.specs.Statuses.{ending, handed_back, refuses_line}
use Rattle.mail_search.specs.declared.asked.Task.{Task}
use Rattle.mail_search.specs.declared.status.Status.{Status}
use Rattle.mail_search.proofs.Answered.{answered, asked_refused, makes_none, makes_this, not_answered, replayed, takes_queries, takes_replay}
use Rattle.mail_search.proofs.Sent.{handed_on}
use Rattle.mail_search.proofs.running.answer.Goals as goal

pub returns-in_err-task_of-clause-ended : goal.returns-in_err-task_of-clause-ended
returns-in_err-task_of-clause-ended g c =
    let words = map (string_bytes {Z = Global}) c.args.words.now in
    let source = source_seen g.S.Source.left g.S.Source.faults c.args.source.now in
    let sink = sink_seen g.K.Sink.held g.K.Sink.faults g.K.Sink.wants c.args.sink.now in
    let status = c.in_err-task_of.field-0.0 in
    handed_on (λ (r : Result (Option Closed) Status). HasEnded g.K.Sink.offered words source source sink sink (handed_back r) (ending r))
    c.from_residual.result status c.from_residual.ensures.1 (asked_refused g.K.Sink.offered words source sink status c.in_err-task_of.ensures)

pub returns-in-Replay-clause-ended : goal.returns-in-Replay-clause-ended
returns-in-Replay-clause-ended g c =
    let words = map (string_bytes {Z = Global}) c.args.words.now in
    let source = source_seen g.S.Source.left g.S.Source.faults in
    let sink = sink_seen g.K.Sink.held g.K.Sink.faults g.K.Sink.wants in
    replayed g.K.Sink.offered words (source c.args.source.now) (source c.replayed.new.source) (sink c.args.sink.now) (sink c.replayed.new.sink)
    (handed_back c.replayed.result) (ending c.replayed.result) (subst (λ (t : Task). IsAsked words (Ok t)) c.in-Replay.is c.in_ok-task_of.ensures)
    c.replayed.ensures

pub returns-in-Replay-clause-unread : goal.returns-in-Replay-clause-unread
returns-in-Replay-clause-unread g c refuses = absurd (takes_replay (handed_back c.replayed.result) (ending c.replayed.result) c.replayed.ensures refuses)

pub returns-in-Replay-clause-untouched : goal.returns-in-Replay-clause-untouched
returns-in-Replay-clause-untouched g c makes =
    let words = map (string_bytes {Z = Global}) c.args.words.now in
    absurd (makes_none g.K.Sink.offered words (subst (λ (t : Task). IsAsked words (Ok t)) c.in-Replay.is c.in_ok-task_of.ensures) makes)

pub returns-in_err-answered-in-Answer-clause-ended : goal.returns-in_err-answered-in-Answer-clause-ended
returns-in_err-answered-in-Answer-clause-ended g c =
    let words = map (string_bytes {Z = Global}) c.args.words.now in
    let source = source_seen g.S.Source.left g.S.Source.faults in
    let sink = sink_seen g.K.Sink.held g.K.Sink.faults g.K.Sink.wants in
    let a = source c.args.source.now in
    let b = source c.answered.new.source in
    let s = sink c.args.sink.now in
    let t = sink c.answered.new.sink in
    let these = (subst (λ (t : Task). IsAsked words (Ok t)) c.in-Answer.is c.in_ok-task_of.ensures).0 in
    let status = c.in_err-answered-in-Answer.field-0.0 in
    handed_on (λ (r : Result (Option Closed) Status). HasEnded g.K.Sink.offered words a b s t (handed_back r) (ending r))
    c.from_residual-in_err-answered-in-Answer.result status c.from_residual-in_err-answered-in-Answer.ensures.1
    (not_answered g.K.Sink.offered words these a b s t status c.in_err-answered-in-Answer.ensures.answered)

pub returns-in_err-answered-in-Answer-clause-unread : goal.returns-in_err-answered-in-Answer-clause-unread
returns-in_err-answered-in-Answer-clause-unread g c =
    let source = source_seen g.S.Source.left g.S.Source.faults in
    let sink = sink_seen g.K.Sink.held g.K.Sink.faults g.K.Sink.wants in
    let asked = c.in-Answer.asked in
    let status = c.in_err-answered-in-Answer.field-0.0 in
    let takes = takes_queries g.K.Sink.offered asked.generate asked.report asked.queries.items (source c.args.source.now) (source c.answered.new.source)
    (sink c.args.sink.now) (sink c.answered.new.sink) status c.in_err-answered-in-Answer.ensures.answered in
    handed_on (λ (r : Result (Option Closed) Status). refuses_line (ending r) ≡ true → c.answered.new.source ≡ c.args.source.now)
    c.from_residual-in_err-answered-in-Answer.result status c.from_residual-in_err-answered-in-Answer.ensures.1
    (λ refuses. absurd (takes refuses))

pub returns-in_err-answered-in-Answer-clause-untouched : goal.returns-in_err-answered-in-Answer-clause-untouched
returns-in_err-answered-in-Answer-clause-untouched g c makes =
    let words = map (string_bytes {Z = Global}) c.args.words.now in
    let these = (subst (λ (t : Task). IsAsked words (Ok t)) c.in-Answer.is c.in_ok-task_of.ensures).0 in
    c.in_err-answered-in-Answer.ensures.untouched makes.0 (makes_this words _ these.asks makes)

pub returns-in_ok-answered-in-Answer-clause-ended : goal.returns-in_ok-answered-in-Answer-clause-ended
returns-in_ok-answered-in-Answer-clause-ended g c =
    let words = map (string_bytes {Z = Global}) c.args.words.now in
    let these = (subst (λ (t : Task). IsAsked words (Ok t)) c.in-Answer.is c.in_ok-task_of.ensures).0 in
    let source = source_seen g.S.Source.left g.S.Source.faults in
    let sink = sink_seen g.K.Sink.held g.K.Sink.faults g.K.Sink.wants in
    answered g.K.Sink.offered words these (source c.args.source.now) (source c.answered.new.source) (sink c.args.sink.now) (sink c.answered.new.sink)
    c.in_ok-answered-in-Answer.field-0 c.in_ok-answered-in-Answer.ensures.answered

pub returns-in_ok-answered-in-Answer-clause-untouched : goal.returns-in_ok-answered-in-Answer-clause-untouched
returns-in_ok-answered-in-Answer-clause-untouched g c makes =
    let words = map (string_bytes {Z = Global}) c.args.words.now in
    let these = (subst (λ (t : Task). IsAsked words (Ok t)) c.in-Answer.is c.in_ok-task_of.ensures).0 in
    c.in_ok-answered-in-Answer.ensures.untouched makes.0 (makes_this words _ these.asks makes)
