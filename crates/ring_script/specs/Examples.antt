-- Worked examples of texts.
use Rattle.std.specs.Prelude.{◌≡◌, ℕ, List, [], ◌∷◌, ◌++◌, codes}
use Rattle.ring_core.specs.declared.action.Later.TheVariants.{Order}
use Rattle.ring_runs.specs.declared.trace.Happened.TheVariants.{Completed, Later}
use Rattle.ring_runs.specs.declared.trace.Trace.{Trace}
use Rattle.ring_state.specs.declared.setup.Setup.{Setup}
use Rattle.ring_runs.specs.declared.event.Event.{Event}
use Rattle.ring_runs.specs.declared.event.Act.TheVariants.{Begin, Read, Run, Step}
use Rattle.ring_script.specs.Lines.{lines_of, tokens_of, IsNumber}
use Rattle.ring_script.specs.Grammar.{AsksFor}
use Rattle.ring_script.specs.Script.{IsScript}
use Rattle.ring_script.specs.Printed.{printed}
use Rattle.ring_script.specs.Written.{events_text, script_text, MayAsk}

-- caller 0 had to wait for entry 1, which caller 1 then completed
abbrev pub waited : Trace
waited = record {
  lines = record { who = 0; what = Later (Order 1 6) } ∷ record { who = 1; what = Completed 1 } ∷ [];
  index = 2;
  words = 0 ∷ 5 ∷ 0 ∷ [];
}

abbrev pub PrintedExample : Type 0
PrintedExample = printed waited ≡ codes "0 later order 1 6" ++ 10 ∷ (codes "1 completed 1" ++ 10 ∷ (codes "index 2" ++ 10 ∷ (codes "word 1 5" ++ 10 ∷ [])))

-- ---- lines and tokens
-- three lines, of which the second is skipped and the last has no line feed: its carriage return is content
abbrev pub LinesExample : Type 0
LinesExample =
    lines_of (codes "0 begin" ++ 13 ∷ 10 ∷ (codes "# a" ++ 10 ∷ (codes "0 run" ++ 13 ∷ [])))
    ≡ record { number = 1; content = codes "0 begin" } ∷ record { number = 3; content = codes "0 run" ++ 13 ∷ [] } ∷ []

-- spaces part tokens, and one at the end of a line parts an empty token
abbrev pub TokensExample : Type 0
TokensExample =
    (tokens_of (codes "0 write  1 5") ≡ codes "0" ∷ codes "write" ∷ codes "1" ∷ codes "5" ∷ [])
    × (tokens_of (codes "0 turn ") ≡ codes "0" ∷ codes "turn" ∷ [] ∷ [])

-- leading zeros are digits, and 2^64 is no number
abbrev pub NumberExample : Type 0
NumberExample = IsNumber (codes "007") 7 × ((number : ℕ) → IsNumber (codes "18446744073709551616") number → ⊥)

-- a step takes one step at least
abbrev pub NoStepExample : Type 0
NoStepExample = AsksFor (codes "step" ∷ codes "0" ∷ []) (Step 0) → ⊥

-- nor is no step printed
abbrev pub NoStepPrintedExample : Type 0
NoStepPrintedExample = MayAsk (Step 0) → ⊥

-- ---- a script
abbrev pub small_text : List ℕ
small_text = codes "ring 4 bits 64 words 8 callers 1 life 3" ++ 10 ∷ (codes "word 1 7" ++ 10 ∷ (codes "0 begin run" ++ 10 ∷ []))

abbrev pub small_setup : Setup
small_setup = record {
  shape = record { ring = 4; sig_words = 1; heap = 8; life = 3 };
  callers = 1;
  regions = [];
  first = 0 ∷ 7 ∷ 0 ∷ 0 ∷ 0 ∷ 0 ∷ 0 ∷ 0 ∷ [];
}

abbrev pub small_events : List Event
small_events = record { who = 0; act = Begin; line = 3 } ∷ record { who = 0; act = Run; line = 3 } ∷ []

abbrev pub ScriptExample : Type 0
ScriptExample = IsScript (lines_of small_text) small_setup small_events

-- ---- the text of a script
abbrev pub ScriptTextExample : Type 0
ScriptTextExample = script_text small_setup small_events ≡ small_text

-- a run stands with its request on the same line, and on a line of its own behind a request of another line
abbrev pub RunTextExample : Type 0
RunTextExample =
    (events_text (record { who = 1; act = Read 3; line = 2 } ∷ record { who = 1; act = Run; line = 2 } ∷ []) ≡ codes "1 read 3 run" ++ 10 ∷ [])
    × (events_text (record { who = 1; act = Read 3; line = 2 } ∷ record { who = 1; act = Run; line = 3 } ∷ [])
    ≡ codes "1 read 3" ++ 10 ∷ (codes "1 run" ++ 10 ∷ []))
