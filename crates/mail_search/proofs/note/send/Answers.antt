use Rattle.mail_answers.specs.Sending.{sink_seen}
use Rattle.mail_search.proofs.Noted.{noted}
use Rattle.mail_search.proofs.note.send.Goals as goal

pub returns : goal.returns
returns g c =
    let sink = g.E.Sink in
    let seen = sink_seen sink.held sink.faults sink.wants in
    let sent = c.write_all.ensures in
    noted sink.offered (seen c.args.notes.now) (seen c.write_all.new.sink) c.args.note.now c.write_all.result sent.bytes sent.offered sent.fault_cause
    sent.want_cause
