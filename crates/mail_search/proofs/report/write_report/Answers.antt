use Rattle.std.proofs.Common.{List, ℕ, ◌∷◌, [], ◌∙◌, subst}
use Rattle.mail_answers.specs.Sending.{sink_seen}
use Rattle.mail_answers.specs.Sent.{AreSent}
use Rattle.mail_search.proofs.Sent.{none_of, piece_sent}
use Rattle.mail_search.proofs.report.write_report.Goals as goal

pub returns-in_default : goal.returns-in_default
returns-in_default g c = none_of g.K.Sink.offered _ _

pub returns : goal.returns
returns g c =
    let sink = g.K.Sink in
    let a = sink_seen sink.held sink.faults sink.wants c.args.sink.now in
    let b = sink_seen sink.held sink.faults sink.wants c.write_all.new.sink in
    let sent = c.write_all.ensures in
    subst (λ (line : List ℕ). AreSent sink.offered a b (line ∷ []) c.write_all.result) (c.as_bytes.ensures.value ∙ c.in-Ok.ensures)
    (piece_sent sink.offered a b c.as_bytes.result.now c.write_all.result sent.bytes sent.offered sent.fault_cause sent.want_cause)
