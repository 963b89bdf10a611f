-- Lists of message numbers that rise.
use Rattle.std.specs.Prelude.{ℕ, ◌+◌, ◌≤◌, ◌==◌, nat_lt, Bool, List, [], ◌∷◌, if◌then◌else◌}
use Rattle.std.specs.List.{list_any}

-- the number is among the numbers
abbrev pub has_number : ℕ → List ℕ → Bool
has_number number numbers = list_any (λ other. other == number) numbers

-- Each number is greater than the one before it, and the first is at least `low`.
abbrev pub RisesFrom : ℕ → List ℕ → Type 0
RisesFrom low [] = Unit {0}
RisesFrom low (number ∷ numbers) = (low ≤ number) × RisesFrom (number + 1) numbers

abbrev pub Rises : List ℕ → Type 0
Rises numbers = RisesFrom 0 numbers

-- a rising list with the number in its order, once
abbrev pub with_number : ℕ → List ℕ → List ℕ
with_number number [] = number ∷ []
with_number number (other ∷ numbers) =
    if nat_lt number other then number ∷ other ∷ numbers
    else (if number == other then other ∷ numbers else other ∷ with_number number numbers)

-- a rising list with the others in their order, each once
abbrev pub with_numbers : List ℕ → List ℕ → List ℕ
with_numbers [] numbers = numbers
with_numbers (other ∷ others) numbers = with_number other (with_numbers others numbers)

-- the set of the numbers, as a rising list
abbrev pub rising : List ℕ → List ℕ
rising numbers = with_numbers numbers []
