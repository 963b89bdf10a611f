-- The text isn't a script, or isn't replayed.
use Rattle.std.proofs.lemmas.Result.{err_from_is_err_and}
use Rattle.ring_replay.specs.Outcome.{sink_seen, source_seen}
use Rattle.ring_replay.proofs.Ended.{trace_stopped}
use Rattle.ring_replay.proofs.replaying.replay_script.Goals as goal

pub returns-in_err-trace : goal.returns-in_err-trace
returns-in_err-trace g c =
    let source = source_seen g.S.Source.left g.S.Source.faults in
    let sink = sink_seen g.K.Sink.held g.K.Sink.faults g.K.Sink.wants in
    let p = err_from_is_err_and c.from_residual-in_err-trace.result c.from_residual-in_err-trace.ensures.1 in
    rw (p.1, p.2)
    (
    trace_stopped g.K.Sink.offered (source c.args.source.now) (source c.read_all.new.source) (sink c.args.sink.now) c.in_ok-text.text c.deref.result.now
    c.in_err-trace.field-0.0 c.deref.ensures.value c.in_ok-text.ensures.bytes c.in_ok-text.ensures.cause.kept c.in_err-trace.ensures
    )
