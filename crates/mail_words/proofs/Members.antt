-- The members of a word list are keys of words.
use Rattle.std.proofs.Common.{◌≡◌, ℕ, Bool, true, false, not, cond, List, [], ◌∷◌, map, refl, sym, subst, IsTrue, if◌then◌else◌}
use Rattle.std.specs.List.{AllByRecursion, filter, slice_split}
use Rattle.std.specs.Char.{is_ascii_alphanumeric}
use Rattle.std.specs.Ordering.{is_lt, is_eq}
use Rattle.std.proofs.lemmas.List.Elements.{All-from_recursion}
use Rattle.mail_words.specs.Key.{KeyNumbers, is_word, is_key, lowered, key_of, key_cmp}
use Rattle.mail_words.specs.Lists.{word_lists, AreKeys, AllAreKeys}
use Rattle.mail_words.specs.Words.{words_of, word_list, with_key, rising}
use Rattle.mail_words.proofs.Keys.{lowered-word, lowered-lower, is_key-key_of}
use Rattle.mail_words.proofs.Runs.{words_of-split}
use Rattle.mbox_cut.specs.Mbox.{bytes_of}
use Rattle.mbox_cut.specs.declared.span.Span.{Span}

abbrev IsKey : KeyNumbers → Type 0
IsKey key = IsTrue (is_key key)

-- the three cases of putting in a key
put_all : (key other : KeyNumbers) (keys rest : List KeyNumbers) (less same : Bool) → IsKey key → IsKey other → AllByRecursion IsKey keys
    → AllByRecursion IsKey rest
    → AllByRecursion IsKey (if less then key ∷ other ∷ keys else (if same then other ∷ keys else other ∷ rest))
put_all key other keys rest true same here there all more = (here, (there, all))
put_all key other keys rest false true here there all more = (there, all)
put_all key other keys rest false false here there all more = (there, more)

with_key-all : (key : KeyNumbers) (keys : List KeyNumbers) → IsKey key → AllByRecursion IsKey keys → AllByRecursion IsKey (with_key key keys)
with_key-all key [] here all = (here, tt)
with_key-all key (other ∷ keys) here all =
    put_all key other keys (with_key key keys) (is_lt (key_cmp key other)) (is_eq (key_cmp key other)) here all.0 all.1 (with_key-all key keys here all.1)

rising-all : (keys : List KeyNumbers) → AllByRecursion IsKey keys → AllByRecursion IsKey (rising keys)
rising-all [] all = tt
rising-all (key ∷ keys) all = with_key-all key (rising keys) all.0 (rising-all keys all.1)

kept_all : (piece : List ℕ) (pieces : List (List ℕ)) (kept : Bool) → is_word piece ≡ kept → AllByRecursion IsKey (map key_of (map lowered pieces))
    → AllByRecursion IsKey (map key_of (map lowered (cond kept (piece ∷ pieces) pieces)))
kept_all piece pieces true is all = (is_key-key_of (lowered piece) (lowered-word piece is) (lowered-lower piece), all)
kept_all piece pieces false is all = all

pieces-all : (pieces : List (List ℕ)) → AllByRecursion IsKey (map key_of (map lowered (filter is_word pieces)))
pieces-all [] = tt
pieces-all (piece ∷ pieces) = kept_all piece (filter is_word pieces) (is_word piece) refl (pieces-all pieces)

pub word_list-keys : (bytes : List ℕ) → AreKeys (word_list bytes)
word_list-keys bytes =
    All-from_recursion IsKey (word_list bytes)
    (rising-all (map key_of (words_of bytes)) (subst (λ (words : List (List ℕ)). AllByRecursion IsKey (map key_of words)) (sym (words_of-split bytes))
    (pieces-all (slice_split (λ byte. not (is_ascii_alphanumeric byte)) bytes))))

all_keys : (bytes : List ℕ) (spans : List Span) → AllByRecursion AreKeys (word_lists bytes spans)
all_keys bytes [] = tt
all_keys bytes (span ∷ spans) = (word_list-keys (bytes_of bytes span), all_keys bytes spans)

pub word_lists-keys : (bytes : List ℕ) (spans : List Span) → AllAreKeys (word_lists bytes spans)
word_lists-keys bytes spans = All-from_recursion AreKeys (word_lists bytes spans) (all_keys bytes spans)
