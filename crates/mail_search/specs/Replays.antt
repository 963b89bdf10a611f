-- How a run ends that replays a script.
use Rattle.std.specs.Prelude.{ℕ, ◌≡◌, List, None, Result}
use Rattle.std.specs.declared.option.Option.{Option}
use Rattle.mail_io.specs.declared.errors.PutError.{PutError}
use Rattle.mail_answers.specs.Sending.{Output}
use Rattle.ring_replay.specs.declared.stop.ReplayStop.{ReplayStop}
use Rattle.ring_replay.specs.Outcome.{IsReplayed, SinkSeen, SourceSeen}
use Rattle.mail_search.specs.Reports.{Closed}
use Rattle.mail_search.specs.Statuses.{status_of_replay}
use Rattle.mail_search.specs.declared.status.Status.{Status}

-- what a replay sees of the sink
abbrev pub trace_in : {K : Type 0} → Output K → SinkSeen K
trace_in sink = record { sink = sink.sink; held = sink.held; faults = sink.faults; wants = sink.wants }

-- The script of the source was replayed, or not, with the status of that end. Its cause, and what the sink was sent, are those of `ring_replay`: at
-- status 0 the source's bytes are all a script, and the sink was sent the text of its trace in one piece, with no fault and no want of memory; at
-- status 9 the line is the first that is no line of a script, or that of the first event that is refused. No ring is handed back.
pub record HasReplayed {K : Type 0} (offered : K → List ℕ → Result ℕ PutError → K → Type 0) (source source_after : SourceSeen) (sink sink_after : Output K)
    (closed : Option Closed) (status : Status) : Type 0 where
  pub result : Result (Unit {0}) ReplayStop
  pub ended : status ≡ status_of_replay result
  pub no_ring : closed ≡ None
  pub replayed : IsReplayed offered source source_after (trace_in sink) (trace_in sink_after) result
