-- The words of a message: the runs of 1 to 32 ASCII letters and digits, in lower case.
use Rattle.std.specs.Prelude.{ℕ, ◌-◌, ◌==◌, ◌&&◌, ◌||◌, Bool, not, nat_le, List, [], ◌∷◌, length, map, filter, drop, slice_index, if◌then◌else◌}
use Rattle.std.specs.List.{range_with_len, take_while}
use Rattle.std.specs.Char.{is_ascii_alphanumeric}
use Rattle.std.specs.Ordering.{is_lt, is_eq}
use Rattle.mail_words.specs.Key.{KeyNumbers, lowered, key_of, key_cmp}

-- a letter or a digit stands at the position, and none directly before it
abbrev pub starts_run : List ℕ → ℕ → Bool
starts_run bytes position =
    is_ascii_alphanumeric (slice_index bytes position) && (position == 0 || not (is_ascii_alphanumeric (slice_index bytes (position - 1))))

-- the letters and digits from the position on, up to the first other byte or the end
abbrev pub run_at : List ℕ → ℕ → List ℕ
run_at bytes position = take_while is_ascii_alphanumeric (drop position bytes)

-- the runs, in order
abbrev pub runs_of : List ℕ → List (List ℕ)
runs_of bytes = map (run_at bytes) (filter (starts_run bytes) (range_with_len 0 (length bytes)))

-- the words, in order: a run of more than 32 bytes gives none
abbrev pub words_of : List ℕ → List (List ℕ)
words_of bytes = map lowered (filter (λ run. nat_le (length run) 32) (runs_of bytes))

-- a rising list with the key in its order, once
abbrev pub with_key : KeyNumbers → List KeyNumbers → List KeyNumbers
with_key key [] = key ∷ []
with_key key (other ∷ keys) =
    if is_lt (key_cmp key other) then key ∷ other ∷ keys
    else (if is_eq (key_cmp key other) then other ∷ keys else other ∷ with_key key keys)

-- the set of the keys, as a rising list
abbrev pub rising : List KeyNumbers → List KeyNumbers
rising [] = []
rising (key ∷ keys) = with_key key (rising keys)

-- the keys of the words, rising, each once
abbrev pub word_list : List ℕ → List KeyNumbers
word_list bytes = rising (map key_of (words_of bytes))
