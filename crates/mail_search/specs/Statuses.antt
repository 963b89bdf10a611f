-- The statuses with which a run ends, and their numbers.
use Rattle.std.specs.Prelude.{ℕ, ◌≡◌, Bool, true, false, Option, None, Result, Ok, Err}
use Rattle.mail_line.specs.declared.settings.LineError.{LineError}
use Rattle.mail_line.specs.declared.settings.LineError.TheVariants as line
use Rattle.mail_gen.specs.declared.error.GenError.{GenError}
use Rattle.mail_gen.specs.declared.error.GenError.TheVariants as gen
use Rattle.mail_io.specs.declared.errors.ReadError.{ReadError}
use Rattle.mail_io.specs.declared.errors.ReadError.TheVariants as read
use Rattle.mail_io.specs.declared.errors.WriteError.{WriteError}
use Rattle.mail_io.specs.declared.errors.WriteError.TheVariants as write
use Rattle.mbox_cut.specs.declared.error.CutError.{CutError}
use Rattle.mbox_cut.specs.declared.error.CutError.TheVariants as cut
use Rattle.mail_words.specs.declared.lists.ListsError.{ListsError}
use Rattle.mail_words.specs.declared.lists.ListsError.TheVariants as lists
use Rattle.ring_replay.specs.declared.stop.ReplayStop.{ReplayStop}
use Rattle.ring_replay.specs.declared.stop.ReplayStop.TheVariants as replay
use Rattle.mail_search.specs.declared.status.Status.{Status}
use Rattle.mail_search.specs.declared.status.Status.TheVariants.{Done, ReadFault, Usage, NotMbox, TooLarge, BadQuery, WriteFault, Memory, TooManyMessages, TooManyPostings, BadScript}

-- the exit status
abbrev pub number_of : Status → ℕ
number_of Done = 0
number_of ReadFault = 1
number_of Usage = 2
number_of NotMbox = 3
number_of TooLarge = 4
number_of (BadQuery query error) = 5
number_of WriteFault = 6
number_of Memory = 7
number_of TooManyMessages = 8
number_of TooManyPostings = 8
number_of (BadScript line) = 9

-- the number is that of a status of which this holds
abbrev pub IsStatus : ℕ → (Status → Type 0) → Type 0
IsStatus number Holds = (status : Status) × (number ≡ number_of status) × Holds status

-- how a run ended that may have stopped early
abbrev pub ending : {T : Type 0} → Result T Status → Status
ending (Ok _) = Done
ending (Err status) = status

-- what it hands back then
abbrev pub handed_back : {T : Type 0} → Result (Option T) Status → Option T
handed_back (Ok value) = value
handed_back (Err status) = None

-- the status for each refusal of the command line, and of making a mailbox, of which no command line asks for too many messages
abbrev pub status_of_line : LineError → Status
status_of_line line.Usage = Usage
status_of_line line.Memory = Memory

abbrev pub status_of_making : GenError → Status
status_of_making gen.TooMany = Usage
status_of_making gen.Memory = Memory

-- the status for each refusal of reading, cutting, listing the words and writing
abbrev pub status_of_reading : ReadError → Status
status_of_reading read.Failed = ReadFault
status_of_reading read.TooLarge = TooLarge
status_of_reading read.Memory = Memory

abbrev pub status_of_cutting : CutError → Status
status_of_cutting cut.NotMbox = NotMbox
status_of_cutting cut.TooMany = TooManyMessages
status_of_cutting cut.Memory = Memory

abbrev pub status_of_listing : ListsError → Status
status_of_listing lists.TooMany = TooManyPostings
status_of_listing lists.Memory = Memory

abbrev pub status_of_writing : WriteError → Status
status_of_writing (write.Failed sent) = WriteFault
status_of_writing (write.Memory sent) = Memory

-- the status for each end of a replay
abbrev pub status_of_stop : ReplayStop → Status
status_of_stop replay.ReadFault = ReadFault
status_of_stop replay.TooLarge = TooLarge
status_of_stop (replay.BadScript line) = BadScript line
status_of_stop replay.WriteFault = WriteFault
status_of_stop replay.Memory = Memory

abbrev pub status_of_replay : {T : Type 0} → Result T ReplayStop → Status
status_of_replay (Ok _) = Done
status_of_replay (Err stop) = status_of_stop stop

-- the words of the command line were refused
abbrev pub refuses_line : Status → Bool
refuses_line Usage = true
refuses_line (BadQuery query error) = true
refuses_line _ = false
