-- A word and its key: each gives the other.
use Rattle.std.specs.Bool.{then_some}
use Rattle.std.proofs.Common.{subst, false, ◌≡◌, IsTrue, SomeIff, ℕ, suc, zero, cond, ltb, Option, Some, None, unwrap_or, ◌+◌, ◌-◌, ◌<◌, ◌≤◌, ◌==◌, ◌&&◌, Bool, true, not, List, [], ◌∷◌, ◌++◌, length, take, drop, replicate, slice_range, get_or, refl, sym, ap, ◌∙◌, arith, inl, inr}
use Rattle.std.specs.List.{list_all, take_while, position_or_len, prefix_len}
use Rattle.std.proofs.lemmas.List.Folds.{length-prefix_len}
use Rattle.std.proofs.lemmas.List.Sums.{prefix_len-le-length}
use Rattle.std.specs.Char.{is_ascii_alphanumeric, to_ascii_lowercase}
use Rattle.std.specs.Int.{w64, from_be_bytes, to_be_bytes}
use Rattle.std.proofs.lemmas.Bool.{false≢true, and_parts, and_from, leb-true, ltb-true, lt-ltb, le-ltb, le-leb, cases_lt, eqb-true, eq-eqb}
use Rattle.std.proofs.lemmas.List.{length-take-le, length-drop, length-map, get_or-drop}
use Rattle.std.proofs.lemmas.Nat.{be_bytes_8}
use Rattle.mail_words.specs.Key.{KeyNumbers, numbers, is_word, lowered, padded, key_of, key_bytes, word_of, same_key, is_key}
use Rattle.mail_words.proofs.Bytes.{alphanumeric-not_zero, alphanumeric-lowercase, lowercase-lowercase, list_all-weaker, list_all-mapped, padded-is, length-padded, padded-below, take_while-append, four_parts}

-- ---- what a word is

pub record IsWord (word : List ℕ) : Type 0 where
  pub longer : 0 < length word
  pub shorter : length word ≤ 32
  pub all : list_all is_ascii_alphanumeric word ≡ true

pub word_parts : (word : List ℕ) → is_word word ≡ true → IsWord word
word_parts word is =
    let outer = and_parts _ _ is in
    let inner = and_parts _ _ outer.0 in
    record { longer = ltb-true 0 (length word) inner.0; shorter = leb-true (length word) 32 inner.1; all = outer.1 }

-- every letter is in lower case
abbrev pub is_lower : List ℕ → Bool
is_lower word = list_all (λ byte. to_ascii_lowercase byte == byte) word

pub lowered-word : (word : List ℕ) → is_word word ≡ true → is_word (lowered word) ≡ true
lowered-word word is =
    let parts = word_parts word is in
    let long : length (lowered word) ≡ length word = length-map word to_ascii_lowercase in
    and_from _ _
    (and_from _ _ (lt-ltb 0 (length (lowered word)) (omega arith)) (le-leb (length (lowered word)) 32 (omega arith)))
    (list_all-mapped is_ascii_alphanumeric is_ascii_alphanumeric to_ascii_lowercase alphanumeric-lowercase word parts.all)

pub lowered-lower : (word : List ℕ) → is_lower (lowered word) ≡ true
lowered-lower [] = refl
lowered-lower (x ∷ word) = and_from _ _ (lowercase-lowercase x) (lowered-lower word)

-- ---- the bytes of a word's key

pub below_taken : (n : ℕ) (bytes : List ℕ) → ((index : ℕ) → get_or bytes index 0 < 256) → (index : ℕ) → get_or (take n bytes) index 0 < 256
below_taken zero bytes small index = omega arith
below_taken (suc n) [] small index = omega arith
below_taken (suc n) (x ∷ bytes) small zero = small 0
below_taken (suc n) (x ∷ bytes) small (suc index) =
    below_taken n bytes (λ at. small (suc at)) index

pub below_dropped : (n : ℕ) (bytes : List ℕ) → ((index : ℕ) → get_or bytes index 0 < 256) → (index : ℕ) → get_or (drop n bytes) index 0 < 256
below_dropped n bytes small index = rw get_or-drop (small (n + index))

part : (bytes : List ℕ) (from : ℕ) → length bytes ≡ 32 → from ≤ 24 → ((index : ℕ) → get_or bytes index 0 < 256)
    → to_be_bytes w64 (from_be_bytes w64 (slice_range bytes from (from + 8))) ≡ slice_range bytes from (from + 8)
part bytes from long inside small =
    let wide : from + 8 - from ≡ 8 = omega arith in
    let eight : length (slice_range bytes from (from + 8)) ≡ 8 =
    length-take-le (from + 8 - from) (drop from bytes) (omega (arith, length-drop from bytes)) ∙ wide in
    be_bytes_8 (slice_range bytes from (from + 8)) _ eight (λ index. below_taken (from + 8 - from) (drop from bytes) (below_dropped from bytes small) index)
    refl

joined : (a b c d s t u v : List ℕ) → a ≡ s → b ≡ t → c ≡ u → d ≡ v → a ++ b ++ c ++ d ≡ s ++ t ++ u ++ v
joined a b c d s t u v is_s is_t is_u is_v = cc

pub key_bytes-key_of : (word : List ℕ) → is_word word ≡ true → key_bytes (key_of word) ≡ padded word
key_bytes-key_of word is =
    let parts = word_parts word is in
    let long = length-padded word parts.shorter in
    let small = padded-below word parts.shorter parts.all in
    joined _ _ _ _ _ _ _ _ (part (padded word) 0 long (omega arith) small) (part (padded word) 8 long (omega arith) small)
    (part (padded word) 16 long (omega arith) small) (part (padded word) 24 long (omega arith) small)
    ∙ four_parts (padded word) long

abbrev not_zero : ℕ → Bool
not_zero byte = not (byte == 0)

no_front : (n : ℕ) → take_while not_zero (replicate n 0) ≡ []
no_front zero = refl
no_front (suc n) = refl

pub word_of-key_of : (word : List ℕ) → is_word word ≡ true → word_of (key_of word) ≡ word
word_of-key_of word is =
    let parts = word_parts word is in
    let bytes : key_bytes (key_of word) ≡ word ++ replicate (32 - length word) 0 = key_bytes-key_of word is ∙ padded-is word parts.shorter in
    ap (take_while not_zero) bytes
    ∙ take_while-append not_zero word (replicate (32 - length word) 0) (list_all-weaker is_ascii_alphanumeric not_zero alphanumeric-not_zero word parts.all)
    (no_front (32 - length word))

-- ---- a key is that of its word

pub same_numbers : (a b c d s t u v : ℕ) → a ≡ s → b ≡ t → c ≡ u → d ≡ v → numbers a b c d ≡ numbers s t u v
same_numbers a b c d s t u v is_s is_t is_u is_v =
    ap (λ k. numbers k b c d) is_s ∙ ap (λ k. numbers s k c d) is_t ∙ ap (λ k. numbers s t k d) is_u ∙ ap (λ k. numbers s t u k) is_v

pub same_key-is : (a b : KeyNumbers) → same_key a b ≡ true → a ≡ b
same_key-is a b same =
    let first = and_parts _ _ same in
    let second = and_parts _ _ first.1 in
    let third = and_parts _ _ second.1 in
    let in_k0 : a.k0 ≡ b.k0 = eqb-true a.k0 b.k0 first.0 in
    let in_k1 : a.k1 ≡ b.k1 = eqb-true a.k1 b.k1 second.0 in
    let in_k2 : a.k2 ≡ b.k2 = eqb-true a.k2 b.k2 third.0 in
    let in_k3 : a.k3 ≡ b.k3 = eqb-true a.k3 b.k3 third.1 in
    same_numbers a.k0 a.k1 a.k2 a.k3 b.k0 b.k1 b.k2 b.k3 in_k0 in_k1 in_k2 in_k3

pub same_key-refl : (a : KeyNumbers) → same_key a a ≡ true
same_key-refl a =
    and_from _ _ (eq-eqb a.k0 a.k0 refl)
    (and_from _ _ (eq-eqb a.k1 a.k1 refl)
    (and_from _ _ (eq-eqb a.k2 a.k2 refl) (eq-eqb a.k3 a.k3 refl)))

pub is_key-key_of : (word : List ℕ) → is_word word ≡ true → is_lower word ≡ true → is_key (key_of word) ≡ true
unfolding is_key
is_key-key_of word is lower =
    let test : List ℕ → Bool = λ w. is_word w && is_lower w && same_key (key_of w) (key_of word) in
    ap test (word_of-key_of word is) ∙ and_from _ _ (and_from _ _ is lower) (same_key-refl (key_of word))

pub record IsKey (key : KeyNumbers) : Type 0 where
  pub word : is_word (word_of key) ≡ true
  pub lower : is_lower (word_of key) ≡ true
  pub same : key_of (word_of key) ≡ key

pub key_parts : (key : KeyNumbers) → is_key key ≡ true → IsKey key
unfolding is_key
key_parts key is =
    let outer = and_parts _ _ is in
    let inner = and_parts _ _ outer.0 in
    record { word = inner.0; lower = inner.1; same = same_key-is _ key outer.1 }

pub key_bytes-padded : (key : KeyNumbers) → is_key key ≡ true → key_bytes key ≡ padded (word_of key)
key_bytes-padded key is =
    let parts = key_parts key is in
    ap key_bytes (sym parts.same) ∙ key_bytes-key_of (word_of key) parts.word

-- ---- the index of the first zero byte

abbrev is_zero : ℕ → Bool
is_zero byte = byte == 0

found_or : (index long : ℕ) → index ≤ long → unwrap_or (cond (ltb index long) (Some index) None) long ≡ index
found_or index long inside =
    elim (cases_lt index long) [
      | inl below ↦ ap (λ t. unwrap_or (cond t (Some index) None) long) (lt-ltb index long below)
      | inr above ↦ ap (λ t. unwrap_or (cond t (Some index) None) long) (le-ltb index long above) ∙ omega arith
    ]

pub IsWord-word_of : (key : KeyNumbers) → is_key key ≡ true → IsWord (word_of key)
IsWord-word_of key is = word_parts (word_of key) (key_parts key is).word

-- the word of 32 bytes ends at the first zero byte, or after the last
pub first_zero-is : (bytes : List ℕ) (found : Option ℕ) → length bytes ≡ 32
    → found ≡ cond (ltb (position_or_len is_zero bytes) (length bytes)) (Some (position_or_len is_zero bytes)) None
    → unwrap_or found 32 ≡ prefix_len not_zero bytes
first_zero-is bytes found long at =
    ap (λ o. unwrap_or o 32) at
    ∙ ap (λ n. unwrap_or (cond (ltb (position_or_len is_zero bytes) (length bytes)) (Some (position_or_len is_zero bytes)) None) n) (sym long)
    ∙ found_or (position_or_len is_zero bytes) (length bytes) (prefix_len-le-length not_zero bytes)

pub length-word_of : (key : KeyNumbers) → prefix_len not_zero (key_bytes key) ≡ length (word_of key)
length-word_of key = sym (length-prefix_len not_zero (key_bytes key))

-- ---- four numbers that are a key

pub lower-lowered : (word : List ℕ) → is_lower word ≡ true → lowered word ≡ word
lower-lowered [] lower = refl
lower-lowered (x ∷ word) lower =
    let parts = and_parts (to_ascii_lowercase x == x) (is_lower word) lower in
    ap (λ y. y ∷ lowered word) (eqb-true (to_ascii_lowercase x) x parts.0) ∙ ap (λ ys. x ∷ ys) (lower-lowered word parts.1)

pub is_key-from : (key : KeyNumbers) (found : KeyNumbers) → is_word (word_of key) ≡ true → found ≡ key_of (lowered (word_of key)) → found ≡ key
    → is_key key ≡ true
is_key-from key found word is same =
    ap is_key (sym same ∙ is) ∙ is_key-key_of (lowered (word_of key)) (lowered-word (word_of key) word) (lowered-lower (word_of key))

pub found-is_key : (key : KeyNumbers) (found : KeyNumbers) → is_key key ≡ true → found ≡ key_of (lowered (word_of key)) → found ≡ key
found-is_key key found is at =
    let parts = key_parts key is in
    at ∙ ap key_of (lower-lowered (word_of key) parts.lower) ∙ parts.same

-- the tests of the four numbers, one after the other
abbrev pub same_each : KeyNumbers → KeyNumbers → Bool
same_each a b = (((a.k0 == b.k0) && (a.k1 == b.k1)) && (a.k2 == b.k2)) && (a.k3 == b.k3)

same_each-is : (a b : KeyNumbers) → same_each a b ≡ true → a ≡ b
same_each-is a b same =
    let third = and_parts _ _ same in
    let second = and_parts _ _ third.0 in
    let first = and_parts _ _ second.0 in
    same_numbers a.k0 a.k1 a.k2 a.k3 b.k0 b.k1 b.k2 b.k3 (eqb-true a.k0 b.k0 first.0) (eqb-true a.k1 b.k1 first.1) (eqb-true a.k2 b.k2 second.1)
    (eqb-true a.k3 b.k3 third.1)

same_each-refl : (a : KeyNumbers) → same_each a a ≡ true
same_each-refl a =
    and_from _ _ (and_from _ _ (and_from _ _ (eq-eqb a.k0 a.k0 refl) (eq-eqb a.k1 a.k1 refl)) (eq-eqb a.k2 a.k2 refl)) (eq-eqb a.k3 a.k3 refl)

decided : (key found : KeyNumbers) (t : Bool) → t ≡ same_each found key → is_word (word_of key) ≡ true → found ≡ key_of (lowered (word_of key))
    → SomeIff (then_some t found) (IsTrue (is_key key)) key
decided key found true at word is =
    let same : found ≡ key = same_each-is found key (sym at) in
    (is_key-from key found word is same, same)
decided key found false at word is = λ key_is.
    false≢true (at ∙ ap (λ k. same_each k key) (found-is_key key found key_is is) ∙ same_each-refl key)

pub key_found : (key found : KeyNumbers) (t : Bool) (word : List ℕ) (result : Option KeyNumbers) → word ≡ word_of key → t ≡ same_each found key
    → result ≡ then_some t found
    → is_word word ≡ true → found ≡ key_of (lowered word) → SomeIff result (IsTrue (is_key key)) key
key_found key found t word result same at gives is_word_now is =
    subst (λ r. SomeIff r (IsTrue (is_key key)) key) (sym gives)
    (decided key found t at (ap is_word (sym same) ∙ is_word_now) (is ∙ ap (λ w. key_of (lowered w)) same))

pub no_key : (key : KeyNumbers) (word : List ℕ) (result : Option KeyNumbers) → word ≡ word_of key → result ≡ None → (is_word word ≡ true → ⊥)
    → SomeIff result (IsTrue (is_key key)) key
no_key key word result same gives none =
    subst (λ r. SomeIff r (IsTrue (is_key key)) key) (sym gives) (λ key_is. none (ap is_word same ∙ (key_parts key key_is).word))
