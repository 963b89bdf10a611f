-- The limits of a query's text.
use Rattle.std.specs.Prelude.{ℕ, ◌+◌, ◌≤◌, ◌≡◌, ◌==◌, List, [], ◌∷◌, ◌++◌, length, if◌then◌else◌}

-- how often a byte stands in a text
abbrev pub count_of : ℕ → List ℕ → ℕ
count_of byte [] = 0
count_of byte (first ∷ text) = (if first == byte then 1 else 0) + count_of byte text

-- at most 4,096 bytes, and at each position of the text at most 32 parentheses open
pub record IsWithinLimits (text : List ℕ) : Type 0 where
  pub short : length text ≤ 4096
  pub shallow : (front back : List ℕ) → text ≡ front ++ back → count_of 40 front ≤ count_of 41 front + 32
