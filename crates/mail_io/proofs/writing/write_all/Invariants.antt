-- The first bytes are sent, and no count has risen. Who offers the others has offered all.
use Rattle.std.proofs.Common.{◌-◌, length}
use Rattle.mail_io.proofs.Sent.{IsSent, GoesOn}
use Rattle.mail_io.proofs.writing.write_all.Given as goal

abbrev pub invariant-loop-sent : goal.invariant-loop-sent
invariant-loop-sent g l =
    let before = l.initial.sink in
    IsSent (g.K.Sink.held before) (g.K.Sink.held l.sink) (g.K.Sink.faults before) (g.K.Sink.faults l.sink) (g.K.Sink.wants before)
    (g.K.Sink.wants l.sink) l.bytes l.sent
    × GoesOn g.K.Sink.offered before l.sink l.bytes l.sent

abbrev pub decreases-loop-sent : goal.decreases-loop-sent
decreases-loop-sent g l = length l.bytes - l.sent
