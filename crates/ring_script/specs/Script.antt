-- What a script says, and its first line that isn't one of a script.
use Rattle.std.specs.Prelude.{◌≡◌, ◌⊎◌, ℕ, ◌*◌, ◌<◌, ◌≤◌, ◌^◌, List, [], ◌∷◌, ◌++◌, length, replicate, codes, Contains, Result, Ok, Err, Vec}
use Rattle.std.specs.declared.alloc.Global.{Global}
use Rattle.tx_model.specs.declared.gate.Region.{Region}
use Rattle.tx_model.specs.declared.gate.TheConstants.{GATE_UNUSED, GATE_OPEN, GATE_PACKED}
use Rattle.tx_model.specs.declared.word.Word.{Word}
use Rattle.tx_model.specs.Made.{AreWellFormed}
use Rattle.tx_model.specs.Memory.{after}
use Rattle.ring_sig.specs.Signature.{IsWordCount}
use Rattle.ring_state.specs.declared.setup.Setup.{Setup}
use Rattle.ring_runs.specs.declared.event.Act.{Act}
use Rattle.ring_runs.specs.declared.event.Act.TheVariants.{Run}
use Rattle.ring_runs.specs.declared.event.Event.{Event}
use Rattle.ring_script.specs.declared.error.ScriptError.{ScriptError}
use Rattle.ring_script.specs.declared.error.ScriptError.TheVariants.{BadLine, Memory}
use Rattle.ring_script.specs.Lines.{Line, tokens_of, lines_of}
use Rattle.ring_script.specs.Grammar.{IsRingLine, IsNamedLine, IsEventLine, IsRunLine}

-- ---- the groups of lines
abbrev pub tokens_at : Line → List (List ℕ)
tokens_at line = tokens_of line.content

abbrev pub AreRegions : List Line → List Region → Type 0
AreRegions [] [] = Unit {0}
AreRegions (line ∷ lines) (region ∷ regions) =
    IsNamedLine (tokens_at line) (codes "region") (region.gate ∷ region.base ∷ region.len ∷ []) × AreRegions lines regions
AreRegions [] (region ∷ regions) = ⊥
AreRegions (line ∷ lines) [] = ⊥

abbrev pub AreWords : List Line → List Word → Type 0
AreWords [] [] = Unit {0}
AreWords (line ∷ lines) (word ∷ words) = IsNamedLine (tokens_at line) (codes "word") (word.addr ∷ word.value ∷ []) × AreWords lines words
AreWords [] (word ∷ words) = ⊥
AreWords (line ∷ lines) [] = ⊥

abbrev pub event_at : Line → ℕ → Act → Event
event_at line who act = record { who = who; act = act; line = line.number }

-- a line is one event, or a request and the event that runs it
pub record IsEvents (line : Line) (events others : List Event) : Type 0 where
  pub who : ℕ
  pub act : Act
  pub asks : (IsEventLine (tokens_at line) who act × (events ≡ event_at line who act ∷ others))
      ⊎ (IsRunLine (tokens_at line) who act × (events ≡ event_at line who act ∷ event_at line who Run ∷ others))

abbrev pub AreEvents : List Line → List Event → Type 0
AreEvents [] events = events ≡ []
AreEvents (line ∷ lines) events = (others : List Event) × IsEvents line events others × AreEvents lines others

-- a word of the memory, and a value that it may open with: a gate isn't sealed
pub record MayOpenWith (regions : List Region) (words : ℕ) (word : Word) : Type 0 where
  pub within : word.addr < words
  pub gate : (region : Region) → Contains regions region → word.addr ≡ region.gate
      → (word.value ≡ GATE_UNUSED) ⊎ ((word.value ≡ GATE_OPEN) ⊎ (word.value ≡ GATE_PACKED))

-- ---- a script
-- its first line, and then regions, words and events, in this order. The last word of an address holds, and other words open as 0. At most so many
-- lines have events
pub record IsScriptWithin (limit : ℕ) (lines : List Line) (setup : Setup) (events : List Event) : Type 0 where
  pub head : Line
  pub region_lines : List Line
  pub word_lines : List Line
  pub event_lines : List Line
  pub whole : lines ≡ head ∷ (region_lines ++ (word_lines ++ event_lines))
  pub ring : IsRingLine (tokens_at head) setup.shape.ring (64 * setup.shape.sig_words) setup.shape.heap setup.callers setup.shape.life
  pub ring_length : (1 ≤ setup.shape.ring) × (setup.shape.ring ≤ 4096)
  pub signature : IsWordCount setup.shape.sig_words
  pub memory : (1 ≤ setup.shape.heap) × (setup.shape.heap ≤ 65536)
  pub callers : (1 ≤ setup.callers) × (setup.callers ≤ 64)
  pub life : (1 ≤ setup.shape.life) × (setup.shape.life ≤ 2 ^ 60)
  pub regions : AreRegions region_lines setup.regions
  pub few_regions : length region_lines ≤ 64
  pub well_formed : AreWellFormed (replicate setup.shape.heap 0) setup.regions
  pub words : List Word
  pub opens : AreWords word_lines words
  pub may_open : (word : Word) → Contains words word → MayOpenWith setup.regions setup.shape.heap word
  pub first : setup.first ≡ after (replicate setup.shape.heap 0) words
  pub happens : AreEvents event_lines events
  pub few_events : length event_lines ≤ limit

-- the lines say something
abbrev pub IsSomeWithin : ℕ → List Line → Type 0
IsSomeWithin limit lines = (setup : Setup) × (events : List Event) × IsScriptWithin limit lines setup events

-- the first line with which the text is no longer a script: line 1 where no line is read
pub data IsFirstBadWithin (limit : ℕ) (lines : List Line) (number : ℕ) : Type 0 where
  missing : lines ≡ [] → number ≡ 1 → IsFirstBadWithin limit lines number
  bad : (good : List Line) (line : Line) (rest : List Line) → lines ≡ good ++ line ∷ rest → (good ≡ []) ⊎ IsSomeWithin limit good
      → (IsSomeWithin limit (good ++ line ∷ []) → ⊥) → number ≡ line.number → IsFirstBadWithin limit lines number

-- the most lines with events
abbrev pub most_event_lines : ℕ
most_event_lines = 1000000

abbrev pub IsScript : List Line → Setup → List Event → Type 0
IsScript lines setup events = IsScriptWithin most_event_lines lines setup events

abbrev pub IsFirstBad : List Line → ℕ → Type 0
IsFirstBad lines number = IsFirstBadWithin most_event_lines lines number

-- what a text is read as, with at most so many lines of events. Want of memory is free
abbrev pub ReadsWithin : ℕ → List ℕ → Result (Setup × Vec Event Global) ScriptError → Type 0
ReadsWithin limit text (Ok (setup, events)) = IsScriptWithin limit (lines_of text) setup events.items
ReadsWithin limit text (Err (BadLine line)) = IsFirstBadWithin limit (lines_of text) line
ReadsWithin limit text (Err Memory) = Unit {0}

abbrev pub Reads : List ℕ → Result (Setup × Vec Event Global) ScriptError → Type 0
Reads text result = ReadsWithin most_event_lines text result
