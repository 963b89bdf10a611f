-- The text of a script that says a setup and events.
use Rattle.std.specs.Prelude.{ℕ, ◌*◌, ◌<◌, ◌≤◌, ◌^◌, ◌==◌, ◌&&◌, Bool, true, false, List, [], ◌∷◌, ◌++◌, length, map, codes, decimal, if◌then◌else◌, All}
use Rattle.std.specs.List.{concat}
use Rattle.tx_model.specs.declared.gate.Region.{Region}
use Rattle.ring_state.specs.declared.setup.Setup.{Setup}
use Rattle.ring_worlds.specs.Runs.{MayOpen}
use Rattle.ring_runs.specs.declared.event.Act.{Act}
use Rattle.ring_runs.specs.declared.event.Act.TheVariants as act
use Rattle.ring_runs.specs.declared.event.Event.{Event}
use Rattle.ring_script.specs.declared.reading.Asked.{Asked}
use Rattle.ring_script.specs.Grammar.{may_run}
use Rattle.ring_script.specs.Script.{most_event_lines}
use Rattle.ring_script.specs.Printed.{with_numbers, numbers_line, words_text}

-- ---- the setup
-- a number behind its name
abbrev pub named : List ℕ → ℕ → List ℕ
named name number = name ++ 32 ∷ decimal number

-- the first line
abbrev pub ring_text : Setup → List ℕ
ring_text setup =
    named (codes "ring") setup.shape.ring
    ++ (named (codes " bits") (64 * setup.shape.sig_words)
    ++ (named (codes " words") setup.shape.heap ++ (named (codes " callers") setup.callers ++ (named (codes " life") setup.shape.life ++ 10 ∷ []))))

abbrev pub region_text : Region → List ℕ
region_text region = numbers_line (codes "region") (region.gate ∷ region.base ∷ region.len ∷ [])

abbrev pub regions_text : List Region → List ℕ
regions_text regions = concat (map region_text regions)

-- ---- the events
abbrev pub is_run : Act → Bool
is_run act.Run = true
is_run _ = false

-- the next event runs this one's request, on the same line
abbrev pub is_run_by : Event → Event → Bool
is_run_by event next = may_run event.act && (is_run next.act && (next.who == event.who && next.line == event.line))

abbrev pub asked_with : Event → Bool → Asked
asked_with event runs = record { request = record { who = event.who; act = event.act }; runs = runs }

-- what is asked line by line: each request and the run on its line together
abbrev pub asked_of : List Event → List Asked
asked_of [] = []
asked_of (event ∷ []) = asked_with event false ∷ []
asked_of (event ∷ next ∷ events) = if is_run_by event next then asked_with event true ∷ asked_of events else asked_with event false ∷ asked_of (next ∷ events)

-- a name and its numbers
abbrev pub name_text : List ℕ → List ℕ → List ℕ
name_text name numbers = name ++ with_numbers numbers

abbrev pub act_text : Act → List ℕ
act_text act.Begin = name_text (codes "begin") []
act_text (act.Read addr) = name_text (codes "read") (addr ∷ [])
act_text (act.Write addr value) = name_text (codes "write") (addr ∷ value ∷ [])
act_text act.Stamp = name_text (codes "stamp") []
act_text act.Turn = name_text (codes "turn") []
act_text act.Done = name_text (codes "done") []
act_text act.GiveUp = name_text (codes "give-up") []
act_text (act.Seal region) = name_text (codes "seal") (region ∷ [])
act_text (act.Publish region) = name_text (codes "publish") (region ∷ [])
act_text (act.Load addr) = name_text (codes "load") (addr ∷ [])
act_text (act.Store addr value) = name_text (codes "store") (addr ∷ value ∷ [])
act_text (act.Step count) = name_text (codes "step") (count ∷ [])
act_text act.Run = name_text (codes "run") []

abbrev pub run_text : Bool → List ℕ
run_text true = codes " run"
run_text false = []

abbrev pub asked_text : Asked → List ℕ
asked_text asked = decimal asked.request.who ++ 32 ∷ (act_text asked.request.act ++ (run_text asked.runs ++ 10 ∷ []))

abbrev pub events_text : List Event → List ℕ
events_text events = concat (map asked_text (asked_of events))

-- ---- the script
-- the first line, the regions, the words that aren't 0, and the events
abbrev pub script_text : Setup → List Event → List ℕ
script_text setup events = ring_text setup ++ (regions_text setup.regions ++ (words_text setup.first (length setup.first) ++ events_text events))

-- ---- what a script has room for
-- the numbers of an act are numbers of a script, and it is one step at least
abbrev pub MayAsk : Act → Type 0
MayAsk (act.Read addr) = addr < 2 ^ 64
MayAsk (act.Write addr value) = (addr < 2 ^ 64) × (value < 2 ^ 64)
MayAsk (act.Seal region) = region < 2 ^ 64
MayAsk (act.Publish region) = region < 2 ^ 64
MayAsk (act.Load addr) = addr < 2 ^ 64
MayAsk (act.Store addr value) = (addr < 2 ^ 64) × (value < 2 ^ 64)
MayAsk (act.Step count) = (1 ≤ count) × (count ≤ 1000000)
MayAsk _ = Unit {0}

-- a world may be opened with the setup, and a script has room for its words, callers, regions and events
pub record MayBePrinted (setup : Setup) (events : List Event) : Type 0 where
  pub opens : MayOpen setup.shape setup.regions setup.first
  pub few_words : setup.shape.heap ≤ 65536
  pub words : All (λ value. value < 2 ^ 64) setup.first
  pub callers : (1 ≤ setup.callers) × (setup.callers ≤ 64)
  pub few_regions : length setup.regions ≤ 64
  pub asks : All (λ (event : Event). (event.who < 2 ^ 64) × MayAsk event.act) events
  pub few_lines : length (asked_of events) ≤ most_event_lines
