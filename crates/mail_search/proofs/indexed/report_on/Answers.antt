use Rattle.std.proofs.Common.{Bool, Ok, sym, subst}
use Rattle.mail_answers.specs.Sending.{sink_seen}
use Rattle.mail_search.specs.Outcome.{IsReported}
use Rattle.mail_search.proofs.Sent.{not_reported}
use Rattle.mail_search.proofs.indexed.report_on.Goals as goal

pub returns-then-not-report : goal.returns-then-not-report
returns-then-not-report g c =
    let sink = sink_seen g.K.Sink.held g.K.Sink.faults g.K.Sink.wants c.args.sink.now in
    subst (λ (report : Bool). IsReported g.K.Sink.offered sink sink report c.args.closed (Ok c.args.closed)) (sym c.if-not-report.true)
    (not_reported g.K.Sink.offered sink c.args.closed)
