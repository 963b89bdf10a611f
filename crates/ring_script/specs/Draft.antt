-- What the lines so far say, and what one more says.
use Rattle.std.specs.Prelude.{◌≡◌, ◌≢◌, ◌⊎◌, ℕ, ◌+◌, ◌*◌, ◌<◌, ◌≤◌, ◌^◌, Bool, true, false, List, [], ◌∷◌, ◌++◌, length, replicate, slice_set, Option, Some, None, Result, Ok, Err, Contains, if◌then◌else◌}
use Rattle.tx_model.specs.declared.gate.Region.{Region}
use Rattle.tx_model.specs.declared.gate.TheConstants.{GATE_UNUSED, GATE_OPEN, GATE_PACKED}
use Rattle.tx_model.specs.declared.word.Word.{Word}
use Rattle.tx_model.specs.Made.{IsIn, LieApart}
use Rattle.ring_sig.specs.Signature.{IsWordCount}
use Rattle.ring_core.specs.declared.shape.Shape.{Shape}
use Rattle.ring_state.specs.declared.setup.Setup.{Setup}
use Rattle.ring_runs.specs.declared.event.Act.TheVariants.{Run}
use Rattle.ring_runs.specs.declared.event.Event.{Event}
use Rattle.ring_script.specs.declared.draft.Draft.{Draft}
use Rattle.ring_script.specs.declared.draft.Group.{Group}
use Rattle.ring_script.specs.declared.draft.Group.TheVariants.{Regions, Words, Events}
use Rattle.ring_script.specs.declared.draft.Refusal.{Refusal}
use Rattle.ring_script.specs.declared.draft.Refusal.TheVariants as refusal
use Rattle.ring_script.specs.declared.error.ScriptError.{ScriptError}
use Rattle.ring_script.specs.declared.error.ScriptError.TheVariants as script
use Rattle.ring_script.specs.declared.reading.Head.{Head}
use Rattle.ring_script.specs.declared.reading.Asked.{Asked}
use Rattle.ring_script.specs.Lines.{Line, is_read}
use Rattle.ring_script.specs.Reading.{IsHead, IsRegionLine, IsWordLine, IsAsked}
use Rattle.ring_script.specs.Script.{IsScriptWithin, IsSomeWithin, MayOpenWith}

abbrev pub setup_of : Draft → Setup
setup_of d = record { shape = d.shape; callers = d.callers; regions = d.regions.items; first = d.first.items }

-- the group of the last line
abbrev pub IsGroup : Group → List Line → List Line → Type 0
IsGroup Regions words events = (words ≡ []) × (events ≡ [])
IsGroup Words words events = (0 < length words) × (events ≡ [])
IsGroup Events words events = 0 < length events

-- the lines are a script, and say this
pub record IsDraft (limit : ℕ) (lines : List Line) (d : Draft) : Type 0 where
  pub script : IsScriptWithin limit lines (setup_of d) d.events.items
  pub group : IsGroup d.group script.word_lines script.event_lines
  pub counted : d.event_lines ≡ length script.event_lines

abbrev pub IsSoFar : ℕ → List Line → Option Draft → Type 0
IsSoFar limit lines None = lines ≡ []
IsSoFar limit lines (Some d) = IsDraft limit lines d

-- the regions lie in the memory, whose words are there
pub record IsHeld (d : Draft) : Type 0 where
  pub few : d.shape.heap ≤ 65536
  pub room : length d.first.items ≡ d.shape.heap
  pub within : (region : Region) → Contains d.regions.items region → region.base + region.len ≤ d.shape.heap

abbrev pub IsHeldIf : Option Draft → Type 0
IsHeldIf None = Unit {0}
IsHeldIf (Some d) = IsHeld d

-- ---- the first line
-- the shape that the first line says, with its numbers within their limits
pub record IsShapeOf (head : Head) (shape : Shape) : Type 0 where
  pub ring : shape.ring ≡ head.ring
  pub bits : 64 * shape.sig_words ≡ head.bits
  pub heap : shape.heap ≡ head.words
  pub life : shape.life ≡ head.life
  pub ring_length : (1 ≤ head.ring) × (head.ring ≤ 4096)
  pub signature : IsWordCount shape.sig_words
  pub memory : (1 ≤ head.words) × (head.words ≤ 65536)
  pub callers : (1 ≤ head.callers) × (head.callers ≤ 64)
  pub life_span : (1 ≤ head.life) × (head.life ≤ 2 ^ 60)

pub record IsBegun (tokens : List (List ℕ)) (d : Draft) : Type 0 where
  pub head : Head
  pub line : IsHead tokens head
  pub shape : IsShapeOf head d.shape
  pub callers : d.callers ≡ head.callers
  pub regions : d.regions.items ≡ []
  pub first : d.first.items ≡ replicate d.shape.heap 0
  pub group : d.group ≡ Regions
  pub event_lines : d.event_lines ≡ 0
  pub events : d.events.items ≡ []

abbrev pub MayBegin : List (List ℕ) → Type 0
MayBegin tokens = (head : Head) × (shape : Shape) × IsHead tokens head × IsShapeOf head shape

abbrev pub Begins : List (List ℕ) → Result Draft Refusal → Type 0
Begins tokens (Ok d) = IsBegun tokens d
Begins tokens (Err refusal.Bad) = MayBegin tokens → ⊥
Begins tokens (Err refusal.Memory) = Unit {0}

-- ---- a further line
-- two regions lie apart, and no gate is in the other one
pub record AreBeside (one other : Region) : Type 0 where
  pub apart : LieApart one other
  pub gates : one.gate ≢ other.gate
  pub first_out : IsIn one.gate other → ⊥
  pub second_out : IsIn other.gate one → ⊥

-- the region and its gate lie in a memory of so many words, and the gate beside the region
pub record LiesIn (region : Region) (words : ℕ) : Type 0 where
  pub some : 0 < region.len
  pub within : region.base + region.len ≤ words
  pub gate : region.gate < words
  pub outside : IsIn region.gate region → ⊥

-- the region may stand beside these
pub record MayJoin (regions : List Region) (region : Region) (words : ℕ) : Type 0 where
  pub lies_in : LiesIn region words
  pub others : (other : Region) → Contains regions other → AreBeside other region

-- a value that a gate may open with
abbrev pub IsUnsealed : ℕ → Type 0
IsUnsealed value = (value ≡ GATE_UNUSED) ⊎ ((value ≡ GATE_OPEN) ⊎ (value ≡ GATE_PACKED))

pub record MayAddRegion (d : Draft) (region : Region) : Type 0 where
  pub turn : d.group ≡ Regions
  pub few : length d.regions.items < 64
  pub joins : MayJoin d.regions.items region d.shape.heap

pub record MayAddWord (d : Draft) (word : Word) : Type 0 where
  pub turn : d.group ≡ Events → ⊥
  pub opens : MayOpenWith d.regions.items d.shape.heap word

-- what the lines say with one more
pub record IsNext (d next : Draft) (regions_now : List Region) (first_now : List ℕ) (group_now : Group) (lines_now : ℕ) (events_now : List Event) : Type 0 where
  pub shape : next.shape ≡ d.shape
  pub callers : next.callers ≡ d.callers
  pub regions : next.regions.items ≡ regions_now
  pub first : next.first.items ≡ first_now
  pub group : next.group ≡ group_now
  pub event_lines : next.event_lines ≡ lines_now
  pub events : next.events.items ≡ events_now

-- the events of a line
abbrev pub events_by : Bool → Event → List Event
events_by true event = event ∷ record { who = event.who; act = Run; line = event.line } ∷ []
events_by false event = event ∷ []

abbrev pub events_of : ℕ → Asked → List Event
events_of line asked = events_by asked.runs (record { who = asked.request.who; act = asked.request.act; line = line })

abbrev pub WithRegion : Draft → Region → Draft → Type 0
WithRegion d region next = IsNext d next (d.regions.items ++ region ∷ []) d.first.items Regions d.event_lines d.events.items

abbrev pub WithWord : Draft → Word → Draft → Type 0
WithWord d word next = IsNext d next d.regions.items (slice_set d.first.items word.addr word.value) Words d.event_lines d.events.items

abbrev pub WithEvents : Draft → ℕ → Asked → Draft → Type 0
WithEvents d line asked next = IsNext d next d.regions.items d.first.items Events (d.event_lines + 1) (d.events.items ++ events_of line asked)

-- a step that comes exactly where it may
abbrev pub Steps : Type 0 → Type 0 → Result (Unit {0}) Refusal → Type 0
Steps May next (Ok _) = May × next
Steps May next (Err refusal.Bad) = May → ⊥
Steps May next (Err refusal.Memory) = Unit {0}

-- what the tokens of a further line may add
pub data MayAdd (limit : ℕ) (d : Draft) (tokens : List (List ℕ)) : Type 0 where
  of_region : (r : Region) → IsRegionLine tokens r → MayAddRegion d r → MayAdd limit d tokens
  of_word : (w : Word) → IsWordLine tokens w → MayAddWord d w → MayAdd limit d tokens
  of_events : (a : Asked) → IsAsked tokens a → d.event_lines < limit → MayAdd limit d tokens

pub data Adds (limit : ℕ) (d : Draft) (line : ℕ) (tokens : List (List ℕ)) (next : Draft) : Type 0 where
  adds_region : (r : Region) → IsRegionLine tokens r → MayAddRegion d r → WithRegion d r next → Adds limit d line tokens next
  adds_word : (w : Word) → IsWordLine tokens w → MayAddWord d w → WithWord d w next → Adds limit d line tokens next
  adds_events : (a : Asked) → IsAsked tokens a → d.event_lines < limit → WithEvents d line a next → Adds limit d line tokens next

abbrev pub IsAdded : ℕ → Draft → ℕ → List (List ℕ) → Draft → Result (Unit {0}) Refusal → Type 0
IsAdded limit d line tokens next (Ok _) = Adds limit d line tokens next
IsAdded limit d line tokens next (Err refusal.Bad) = MayAdd limit d tokens → ⊥
IsAdded limit d line tokens next (Err refusal.Memory) = Unit {0}

-- the lines with one more are a script or aren't
abbrev pub HasLine : ℕ → List Line → Line → Result Draft ScriptError → Type 0
HasLine limit lines line (Ok d) = IsDraft limit (lines ++ line ∷ []) d
HasLine limit lines line (Err (script.BadLine number)) = (number ≡ line.number) × (IsSomeWithin limit (lines ++ line ∷ []) → ⊥)
HasLine limit lines line (Err script.Memory) = Unit {0}

-- the refusal of a line
abbrev pub at_line : Refusal → ℕ → ScriptError
at_line refusal.Bad line = script.BadLine line
at_line refusal.Memory line = script.Memory

-- the same, by the number of the line
abbrev pub Beginning : ℕ → List (List ℕ) → Result Draft ScriptError → Type 0
Beginning line tokens (Ok d) = IsBegun tokens d
Beginning line tokens (Err (script.BadLine number)) = (number ≡ line) × (MayBegin tokens → ⊥)
Beginning line tokens (Err script.Memory) = Unit {0}

abbrev pub Adding : ℕ → Draft → ℕ → List (List ℕ) → Result Draft ScriptError → Type 0
Adding limit d line tokens (Ok next) = Adds limit d line tokens next
Adding limit d line tokens (Err (script.BadLine number)) = (number ≡ line) × (MayAdd limit d tokens → ⊥)
Adding limit d line tokens (Err script.Memory) = Unit {0}

-- the line, if it is read
abbrev pub read_line : Line → List Line
read_line line = if is_read line.content then line ∷ [] else []

-- a line that isn't read adds nothing, and another one is of a script or isn't
abbrev pub HasPiece : ℕ → List Line → Line → Result (Option Draft) ScriptError → Type 0
HasPiece limit lines line (Ok next) = IsSoFar limit (lines ++ read_line line) next
HasPiece limit lines line (Err (script.BadLine number)) =
    (is_read line.content ≡ true) × (number ≡ line.number) × (IsSomeWithin limit (lines ++ line ∷ []) → ⊥)
HasPiece limit lines line (Err script.Memory) = Unit {0}
