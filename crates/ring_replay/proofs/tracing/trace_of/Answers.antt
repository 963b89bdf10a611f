-- The refused line of a script.
use Rattle.ring_replay.proofs.Ended.{script_refused}
use Rattle.ring_replay.proofs.tracing.trace_of.Goals as goal

pub returns-in-Err : goal.returns-in-Err
returns-in-Err c = script_refused c.args.text.now c.in-Err.error c.stop_of_script.result c.stop_of_script.ensures c.in-Err.ensures
