-- The word lists of several messages, and how they lie in one list of keys.
use Rattle.std.specs.Prelude.{ℕ, ◌≡◌, ◌≤◌, List, [], ◌∷◌, length, map, slice_range, IsTrue}
use Rattle.std.specs.List.{sum_by, flat_map, All}
use Rattle.std.specs.List.Sorted.{IsStrictlySortedBy}
use Rattle.mail_words.specs.Key.{KeyNumbers, key_cmp, is_key}
use Rattle.mail_words.specs.Words.{word_list}
use Rattle.mbox_cut.specs.Mbox.{bytes_of}
use Rattle.mbox_cut.specs.declared.span.Span.{Span}

-- the word list of each message, in order
abbrev pub word_lists : List ℕ → List Span → List (List KeyNumbers)
word_lists bytes spans = map (λ span. word_list (bytes_of bytes span)) spans

-- how many pairs of a word and a message there are
abbrev pub postings_in : List (List KeyNumbers) → ℕ
postings_in lists = sum_by length lists

-- the lists that lie one after the other in the keys: the first begins at an index, and each reaches to its end
abbrev pub lists_from : ℕ → List ℕ → List KeyNumbers → List (List KeyNumbers)
lists_from start [] keys = []
lists_from start (end ∷ ends) keys = slice_range keys start end ∷ lists_from end ends keys

-- the ends rise from an index on, and the last is the given one
abbrev pub AreEnds : ℕ → List ℕ → ℕ → Type 0
AreEnds start [] last = start ≡ last
AreEnds start (end ∷ ends) last = (start ≤ end) × AreEnds end ends last

-- each list rises
abbrev pub AllRise : List (List KeyNumbers) → Type 0
AllRise lists = All (IsStrictlySortedBy key_cmp) lists

-- each number is the key of a word
abbrev pub AreKeys : List KeyNumbers → Type 0
AreKeys keys = All (λ key. IsTrue (is_key key)) keys

-- each list is of keys of words
abbrev pub AllAreKeys : List (List KeyNumbers) → Type 0
AllAreKeys lists = All AreKeys lists

-- the lists of all chunks, one chunk after the other
abbrev pub lists_in : List (List (List KeyNumbers)) → List (List KeyNumbers)
lists_in chunks = flat_map (λ lists. lists) chunks
