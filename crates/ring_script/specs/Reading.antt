-- What a line says, by its tokens.
use Rattle.std.specs.Prelude.{◌≡◌, ℕ, ◌+◌, ◌<◌, Bool, true, false, List, [], ◌∷◌, length, codes, slice_index_or}
use Rattle.tx_model.specs.declared.gate.Region.{Region}
use Rattle.tx_model.specs.declared.word.Word.{Word}
use Rattle.ring_script.specs.declared.reading.Head.{Head}
use Rattle.ring_script.specs.declared.reading.Asked.{Asked}
use Rattle.ring_script.specs.Lines.{IsNumber}
use Rattle.ring_script.specs.Grammar.{IsRingLine, IsNamedLine, IsEventLine, IsRunLine}

-- the token at this index is the name
abbrev pub HasAt : List (List ℕ) → ℕ → List ℕ → Type 0
HasAt tokens at name = (at < length tokens) × (slice_index_or tokens at [] ≡ name)

-- the token at this index is the name, and the next one is the number
pub record IsNamedAt (tokens : List (List ℕ)) (at : ℕ) (name : List ℕ) (number : ℕ) : Type 0 where
  pub named : HasAt tokens at name
  pub numbered : IsNumber (slice_index_or tokens (at + 1) []) number

abbrev pub IsHead : List (List ℕ) → Head → Type 0
IsHead tokens head = IsRingLine tokens head.ring head.bits head.words head.callers head.life

abbrev pub IsRegionLine : List (List ℕ) → Region → Type 0
IsRegionLine tokens region = IsNamedLine tokens (codes "region") (region.gate ∷ region.base ∷ region.len ∷ [])

abbrev pub IsWordLine : List (List ℕ) → Word → Type 0
IsWordLine tokens word = IsNamedLine tokens (codes "word") (word.addr ∷ word.value ∷ [])

-- the line has an event, or a request that is run
abbrev pub AsksBy : Bool → List (List ℕ) → Asked → Type 0
AsksBy true tokens asked = IsRunLine tokens asked.request.who asked.request.act
AsksBy false tokens asked = IsEventLine tokens asked.request.who asked.request.act

abbrev pub IsAsked : List (List ℕ) → Asked → Type 0
IsAsked tokens asked = AsksBy asked.runs tokens asked
