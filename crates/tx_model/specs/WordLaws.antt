-- Laws of the words that an attempt wrote, and worked examples.
use Rattle.std.specs.Prelude.{◌≡◌, ◌≢◌, ◌↔◌, ℕ, ◌+◌, ◌++◌, List, [], ◌∷◌, Some, None, length, IsSome}
use Rattle.tx_model.specs.declared.word.Word.{Word}
use Rattle.tx_model.specs.Words.{addresses, value_of, put, HasAddress, AreApart}

-- a value is there exactly where the address is
abbrev pub ValueExactly : Type 0
ValueExactly = (words : List Word) (addr : ℕ) → IsSome (value_of words addr) ↔ HasAddress words addr

-- the last value written to an address is its value
abbrev pub LastValue : Type 0
LastValue = (words : List Word) (addr value : ℕ) → value_of (put words addr value) addr ≡ Some value

-- another address has the value that it had
abbrev pub OtherValue : Type 0
OtherValue =
    (words : List Word) (addr value other : ℕ) → other ≢ addr → value_of (put words addr value) other ≡ value_of words other

-- no address is there twice
abbrev pub PutApart : Type 0
PutApart = (words : List Word) (addr value : ℕ) → AreApart words → AreApart (put words addr value)

-- a known address adds no word, another one adds one
abbrev pub PutLength : Type 0
PutLength =
    (words : List Word) (addr value : ℕ) → (HasAddress words addr → length (put words addr value) ≡ length words)
    × ((HasAddress words addr → ⊥) → length (put words addr value) ≡ length words + 1)

-- a known address leaves the addresses as they were, another one comes last
abbrev pub PutAddresses : Type 0
PutAddresses =
    (words : List Word) (addr value : ℕ) → (HasAddress words addr → addresses (put words addr value) ≡ addresses words)
    × ((HasAddress words addr → ⊥) → addresses (put words addr value) ≡ addresses words ++ addr ∷ [])

-- ---- worked examples
abbrev pub word : ℕ → ℕ → Word
word addr value = record { addr = addr; value = value }

-- a second write to address 1
abbrev pub PutKnownExample : Type 0
PutKnownExample = put (word 1 9 ∷ word 2 8 ∷ []) 1 7 ≡ word 1 7 ∷ word 2 8 ∷ []

-- a first write to address 2
abbrev pub PutNewExample : Type 0
PutNewExample = put (word 1 9 ∷ []) 2 8 ≡ word 1 9 ∷ word 2 8 ∷ []

abbrev pub ValueExample : Type 0
ValueExample = value_of (word 1 9 ∷ word 2 8 ∷ []) 2 ≡ Some 8

-- nothing was written to address 3
abbrev pub NoValueExample : Type 0
NoValueExample = value_of (word 1 9 ∷ word 2 8 ∷ []) 3 ≡ None
