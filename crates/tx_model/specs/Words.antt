-- The words that an attempt wrote, in the order of their first writes, each address once.
use Rattle.std.specs.Prelude.{◌≡◌, ◌≢◌, ℕ, ◌<◌, ◌==◌, ◌++◌, List, [], ◌∷◌, Option, Some, None, length, map, position, slice_index_or, slice_set, Any}
use Rattle.std.specs.Option.{option_map}
use Rattle.tx_model.specs.declared.word.Word.{Word}

abbrev pub no_word : Word
no_word = record { addr = 0; value = 0 }

abbrev pub word_at : List Word → ℕ → Word
word_at words index = slice_index_or words index no_word

abbrev pub addresses : List Word → List ℕ
addresses words = map (λ word. word.addr) words

-- where the word of an address is, if there is one
unfoldable pub index_of : List Word → ℕ → Option ℕ
index_of words addr = position (λ word. word.addr == addr) words

-- the value of the word there
abbrev pub value_at : List Word → Option ℕ → Option ℕ
value_at words index = option_map (λ at. (word_at words at).value) index

-- the value of an address, if it is among the words
abbrev pub value_of : List Word → ℕ → Option ℕ
value_of words addr = value_at words (index_of words addr)

-- the words after one more write: a known address keeps its index and gets the new value, another one comes last
abbrev pub put_at : Option ℕ → List Word → Word → List Word
put_at (Some index) words word = slice_set words index word
put_at None words word = words ++ word ∷ []

abbrev pub put : List Word → ℕ → ℕ → List Word
put words addr value = put_at (index_of words addr) words (record { addr = addr; value = value })

-- the address is among the words
abbrev pub HasAddress : List Word → ℕ → Type 0
HasAddress words addr = Any (λ word. word.addr ≡ addr) words

-- the addresses are distinct
abbrev pub AreApart : List Word → Type 0
AreApart words = (i j : ℕ) → i < j → j < length words → (word_at words i).addr ≢ (word_at words j).addr
