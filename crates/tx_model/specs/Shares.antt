-- Names of passes. A name is a list of letters, the newest first. A pass that is split keeps one half of its first name.
use Rattle.std.specs.Prelude.{◌≡◌, ◌++◌, Bool, true, false, not, ◌&&◌, List, [], ◌∷◌, filter, Contains, if◌then◌else◌}
use Rattle.std.specs.List.{list_any}

abbrev pub Name : Type 0
Name = List Bool

abbrev pub same_letter : Bool → Bool → Bool
same_letter true letter = letter
same_letter false letter = not letter

abbrev pub same_name : Name → Name → Bool
same_name [] [] = true
same_name [] (letter ∷ name) = false
same_name (letter ∷ name) [] = false
same_name (letter ∷ name) (other ∷ rest) = same_letter letter other && same_name name rest

abbrev pub has_name : List Name → Name → Bool
has_name share name = list_any (same_name name) share

abbrev pub without : List Name → Name → List Name
without share name = filter (λ other. not (same_name name other)) share

-- the other half of what a name is a half of
abbrev pub sibling : Bool → Name → Name
sibling letter name = not letter ∷ name

-- the share with one more name: two halves become one again
abbrev pub with_name : List Name → Name → List Name
with_name share [] = [] ∷ share
with_name share (letter ∷ name) =
    if has_name share (sibling letter name) then with_name (without share (sibling letter name)) name else (letter ∷ name) ∷ share

abbrev pub joined : List Name → List Name → List Name
joined share [] = share
joined share (name ∷ names) = joined (with_name share name) names

-- what a pass keeps of its share when it is split, and what it gives
abbrev pub kept_half : List Name → List Name
kept_half [] = []
kept_half (name ∷ names) = (false ∷ name) ∷ names

abbrev pub given_half : List Name → List Name
given_half [] = []
given_half (name ∷ names) = (true ∷ name) ∷ []

-- no two names are halves of one
abbrev pub AreJoined : List Name → Type 0
AreJoined share = (letter : Bool) (name : Name) → Contains share (letter ∷ name) → ¬ Contains share (sibling letter name)

-- one name is the ending of the other, so that the one pass came of the other
abbrev pub IsEnding : Name → Name → Type 0
IsEnding name other = (newer : Name) × (other ≡ newer ++ name)

abbrev pub AreNamesApart : Name → Name → Type 0
AreNamesApart name other = (¬ IsEnding name other) × (¬ IsEnding other name)

-- the names of one share are apart
abbrev pub AreApartWithin : List Name → Type 0
AreApartWithin [] = Unit {0}
AreApartWithin (name ∷ names) = ((other : Name) → Contains names other → AreNamesApart name other) × AreApartWithin names

-- each name of the one share is apart from each of the other
abbrev pub AreSharesApart : List Name → List Name → Type 0
AreSharesApart share other = (name next : Name) → Contains share name → Contains other next → AreNamesApart name next
