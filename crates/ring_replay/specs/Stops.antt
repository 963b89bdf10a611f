-- Why a script isn't replayed, as exit status and line.
use Rattle.std.specs.Prelude.{ℕ, Option, None, Some}
use Rattle.mail_io.specs.declared.errors.ReadError.{ReadError}
use Rattle.mail_io.specs.declared.errors.ReadError.TheVariants as read
use Rattle.mail_io.specs.declared.errors.WriteError.{WriteError}
use Rattle.mail_io.specs.declared.errors.WriteError.TheVariants as write
use Rattle.ring_runs.specs.declared.trace.ReplayError.{ReplayError}
use Rattle.ring_runs.specs.declared.trace.ReplayError.TheVariants as refusal
use Rattle.ring_script.specs.declared.error.ScriptError.{ScriptError}
use Rattle.ring_script.specs.declared.error.ScriptError.TheVariants as script
use Rattle.ring_replay.specs.declared.stop.ReplayStop.{ReplayStop}
use Rattle.ring_replay.specs.declared.stop.ReplayStop.TheVariants.{ReadFault, TooLarge, BadScript, WriteFault, Memory}

abbrev pub number_of : ReplayStop → ℕ
number_of ReadFault = 1
number_of TooLarge = 4
number_of (BadScript line) = 9
number_of WriteFault = 6
number_of Memory = 7

abbrev pub line_of : ReplayStop → ℕ
line_of ReadFault = 0
line_of TooLarge = 0
line_of (BadScript line) = line
line_of WriteFault = 0
line_of Memory = 0

abbrev pub stop_of_reading : ReadError → ReplayStop
stop_of_reading read.Failed = ReadFault
stop_of_reading read.TooLarge = TooLarge
stop_of_reading read.Memory = Memory

abbrev pub stop_of_writing : WriteError → ReplayStop
stop_of_writing (write.Failed sent) = WriteFault
stop_of_writing (write.Memory sent) = Memory

abbrev pub stop_of_script : ScriptError → ReplayStop
stop_of_script (script.BadLine line) = BadScript line
stop_of_script script.Memory = Memory

-- the index of the event that is refused
abbrev pub event_index : ReplayError → Option ℕ
event_index (refusal.NoCaller at) = Some at
event_index (refusal.NotNow at) = Some at
event_index (refusal.OutOfRange at) = Some at
event_index refusal.Memory = None
