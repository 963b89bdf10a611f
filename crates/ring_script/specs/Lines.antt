-- The lines of a script, and their tokens.
use Rattle.std.specs.Prelude.{◌≡◌, ℕ, ◌+◌, ◌*◌, ◌-◌, ◌<◌, ◌≤◌, ◌^◌, ◌==◌, Bool, false, not, List, [], ◌∷◌, length, filter, if◌then◌else◌, All}

-- ---- lines
abbrev pub onto_first : ℕ → List (List ℕ) → List (List ℕ)
onto_first byte [] = (byte ∷ []) ∷ []
onto_first byte (piece ∷ pieces) = (byte ∷ piece) ∷ pieces

-- the pieces between the separators: one more than there are separators
abbrev pub pieces : ℕ → List ℕ → List (List ℕ)
pieces separator [] = [] ∷ []
pieces separator (byte ∷ bytes) = if byte == separator then [] ∷ pieces separator bytes else onto_first byte (pieces separator bytes)

-- without a carriage return at its end
abbrev pub without_return : List ℕ → List ℕ
without_return [] = []
without_return (byte ∷ []) = if byte == 13 then [] else byte ∷ []
without_return (byte ∷ next ∷ bytes) = byte ∷ without_return (next ∷ bytes)

-- a line ends at a line feed, or at a carriage return and a line feed. The last one ends with the text, and a carriage return there is content
abbrev pub contents : List (List ℕ) → List (List ℕ)
contents [] = []
contents (line ∷ []) = line ∷ []
contents (line ∷ next ∷ lines) = without_return line ∷ contents (next ∷ lines)

-- a line with its number
pub record Line : Type 0 where
  pub number : ℕ
  pub content : List ℕ

abbrev pub numbered : ℕ → List (List ℕ) → List Line
numbered number [] = []
numbered number (content ∷ contents) = record { number = number; content = content } ∷ numbered (number + 1) contents

-- an empty line and one that begins with `#` are skipped, and counted
abbrev pub is_read : List ℕ → Bool
is_read [] = false
is_read (byte ∷ bytes) = not (byte == 35)

abbrev pub lines_of : List ℕ → List Line
lines_of text = filter (λ line. is_read line.content) (numbered 1 (contents (pieces 10 text)))

-- ---- tokens
-- without the empty pieces between two others
abbrev pub parted : List (List ℕ) → List (List ℕ)
parted [] = []
parted (token ∷ []) = token ∷ []
parted ([] ∷ next ∷ tokens) = parted (next ∷ tokens)
parted ((byte ∷ bytes) ∷ next ∷ tokens) = (byte ∷ bytes) ∷ parted (next ∷ tokens)

abbrev pub behind_first : List (List ℕ) → List (List ℕ)
behind_first [] = []
behind_first (token ∷ tokens) = token ∷ parted tokens

-- tokens are parted by one or more spaces. A space at the beginning or the end of a line parts an empty token, which the grammar doesn't have
abbrev pub tokens_of : List ℕ → List (List ℕ)
tokens_of content = behind_first (pieces 32 content)

-- ---- numbers
abbrev pub value_from : ℕ → List ℕ → ℕ
value_from value [] = value
value_from value (digit ∷ digits) = value_from (10 * value + (digit - 48)) digits

-- 1 to 20 decimal digits, of a number below 2^64
pub record IsNumber (token : List ℕ) (number : ℕ) : Type 0 where
  pub some : 1 ≤ length token
  pub most : length token ≤ 20
  pub digits : All (λ digit. (48 ≤ digit) × (digit ≤ 57)) token
  pub value : value_from 0 token ≡ number
  pub fits : number < 2 ^ 64
