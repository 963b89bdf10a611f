-- What follows from the definitions of scripts.
use Rattle.std.specs.Prelude.{◌≡◌, ℕ, ◌≤◌, List, map, Result, Ok, Err, Vec}
use Rattle.std.specs.declared.alloc.Global.{Global}
use Rattle.ring_worlds.specs.Runs.{MayOpen}
use Rattle.ring_state.specs.declared.setup.Setup.{Setup}
use Rattle.ring_runs.specs.declared.event.Event.{Event}
use Rattle.ring_script.specs.declared.error.ScriptError.{ScriptError}
use Rattle.ring_script.specs.declared.error.ScriptError.TheVariants.{BadLine, Memory}
use Rattle.ring_script.specs.declared.reading.Request.{Request}
use Rattle.ring_script.specs.Lines.{Line, lines_of}
use Rattle.ring_script.specs.Script.{IsScript, IsFirstBad, Reads}
use Rattle.ring_script.specs.Written.{script_text, MayBePrinted}

-- a world may be opened with the setup of a script, for its callers
abbrev pub ScriptsOpen : Type 0
ScriptsOpen =
    (lines : List Line) (setup : Setup) (events : List Event) → IsScript lines setup events
    → MayOpen setup.shape setup.regions setup.first × (1 ≤ setup.callers) × (setup.callers ≤ 64)

-- a text whose first bad line has a number is no script, and has no other first bad line
abbrev pub BadIsApart : Type 0
BadIsApart = (lines : List Line) (setup : Setup) (events : List Event) (number : ℕ) → IsScript lines setup events → IsFirstBad lines number → ⊥

abbrev pub BadIsOne : Type 0
BadIsOne = (lines : List Line) (number other : ℕ) → IsFirstBad lines number → IsFirstBad lines other → number ≡ other

-- a script says one setup and one list of events
abbrev pub ScriptsAgree : Type 0
ScriptsAgree =
    (lines : List Line) (setup other : Setup) (events others : List Event) → IsScript lines setup events → IsScript lines other others
    → (setup ≡ other) × (events ≡ others)

-- ---- scripts that are printed
-- what is asked of whom, whatever the lines' numbers are
abbrev pub requests_of : List Event → List Request
requests_of events = map (λ (event : Event). record { who = event.who; act = event.act }) events

-- the text is a script that says the setup, and asks the same
pub record SaysAgain (text : List ℕ) (setup : Setup) (events : List Event) : Type 0 where
  pub others : List Event
  pub script : IsScript (lines_of text) setup others
  pub same : requests_of others ≡ requests_of events

abbrev pub PrintedSaysAgain : Type 0
PrintedSaysAgain = (setup : Setup) (events : List Event) → MayBePrinted setup events → SaysAgain (script_text setup events) setup events

-- the setup was read again, and the same requests, unless memory was wanting
abbrev pub IsReadAgain : Setup → List Event → Result (Setup × Vec Event Global) ScriptError → Type 0
IsReadAgain setup events (Ok (read, others)) = (read ≡ setup) × (requests_of others.items ≡ requests_of events)
IsReadAgain setup events (Err (BadLine line)) = ⊥
IsReadAgain setup events (Err Memory) = Unit {0}

abbrev pub PrintedIsReadAgain : Type 0
PrintedIsReadAgain =
    (setup : Setup) (events : List Event) (result : Result (Setup × Vec Event Global) ScriptError) → MayBePrinted setup events
    → Reads (script_text setup events) result → IsReadAgain setup events result

abbrev pub ScriptsMayBePrinted : Type 0
ScriptsMayBePrinted = (lines : List Line) (setup : Setup) (events : List Event) → IsScript lines setup events → MayBePrinted setup events
