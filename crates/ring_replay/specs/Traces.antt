-- The trace of a text, and the first line of it that is refused.
use Rattle.std.specs.Prelude.{◌≡◌, ◌⊎◌, ℕ, List, Result, Ok, Err, Vec}
use Rattle.std.specs.declared.alloc.Global.{Global}
use Rattle.ring_state.specs.declared.setup.Setup.{Setup}
use Rattle.ring_runs.specs.declared.event.Event.{Event}
use Rattle.ring_runs.specs.declared.trace.Trace.{Trace}
use Rattle.ring_runs.specs.declared.trace.ReplayError.{ReplayError}
use Rattle.ring_runs.specs.Trace.{IsTrace, IsRefused}
use Rattle.ring_script.specs.Lines.{lines_of}
use Rattle.ring_script.specs.Script.{IsScript, IsFirstBad}
use Rattle.ring_script.specs.Printed.{printed}
use Rattle.ring_replay.specs.declared.stop.ReplayStop.{ReplayStop}
use Rattle.ring_replay.specs.declared.stop.ReplayStop.TheVariants.{BadScript, Memory}

-- the text is a script, and replaying it gives this trace
pub record HasTrace (text : List ℕ) (trace : Trace) : Type 0 where
  pub setup : Setup
  pub events : List Event
  pub script : IsScript (lines_of text) setup events
  pub replays : IsTrace setup events trace

-- the first event that is refused is of this line
pub record IsRefusedAt (setup : Setup) (events : List Event) (line : ℕ) : Type 0 where
  pub error : ReplayError
  pub refused : IsRefused setup events error
  pub at_line : line ≡ refused.event.line

-- the text is a script, and this is the line of the first event that is refused
pub record HasRefusedEvent (text : List ℕ) (line : ℕ) : Type 0 where
  pub setup : Setup
  pub events : List Event
  pub script : IsScript (lines_of text) setup events
  pub refused : IsRefusedAt setup events line

-- the text isn't read or replayed, by its first line that is no line of a script, or by that of the first event that is refused
abbrev pub HasBadLine : List ℕ → ℕ → Type 0
HasBadLine text line = IsFirstBad (lines_of text) line ⊎ HasRefusedEvent text line

-- ---- the parts of it
-- the text of the trace of a text
abbrev pub Traces : List ℕ → Result (Vec ℕ Global) ReplayStop → Type 0
Traces text (Ok bytes) = (trace : Trace) × HasTrace text trace × (bytes.items ≡ printed trace)
Traces text (Err (BadScript line)) = HasBadLine text line
Traces text (Err Memory) = Unit {0}
Traces text (Err _) = ⊥

-- the text of the trace of events
abbrev pub Answers : Setup → List Event → Result (Vec ℕ Global) ReplayStop → Type 0
Answers setup events (Ok bytes) = (trace : Trace) × IsTrace setup events trace × (bytes.items ≡ printed trace)
Answers setup events (Err (BadScript line)) = IsRefusedAt setup events line
Answers setup events (Err Memory) = Unit {0}
Answers setup events (Err _) = ⊥
