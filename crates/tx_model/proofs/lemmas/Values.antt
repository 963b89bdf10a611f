-- The value of an address among words, and in the memory that they leave.
use Rattle.std.proofs.Common.{◌≡◌, ◌⊎◌, ℕ, ◌+◌, ◌-◌, ◌<◌, ◌≤◌, Option, Some, None, IsSome, List, [], ◌∷◌, ◌++◌, length, set, slice_get, refl, sym, ◌∙◌, ap, subst, arith, rules, inl, inr, Contains}
use Rattle.std.proofs.lemmas.Bool.{cases_eq, cases_lt}
use Rattle.std.proofs.lemmas.List.{get_or_append_left, get_or-append_right, get_or-map, length-append, length-map}
use Rattle.tx_model.specs.declared.word.Word.{Word}
use Rattle.tx_model.specs.declared.history.Commit.{Commit}
use Rattle.tx_model.specs.Words.{no_word, word_at, addresses, index_of, value_at, value_of, put, HasAddress, AreApart}
use Rattle.tx_model.specs.Memory.{after, Agrees}
use Rattle.tx_model.specs.History.{after_commit}
use Rattle.tx_model.specs.Attempt.{first_of}
use Rattle.tx_model.proofs.lemmas.WordIndexes.{addr_at, index_is, index_found, has_address_at, value_exactly}
pub use Rattle.tx_model.proofs.PutLaws.{put_last, put_other, put_apart, put_length, put_addresses}
pub use Rattle.tx_model.proofs.AfterWords.{value_first, value_rest, after_word}

-- ---- whether there is a value
pub no_value : (addr : ℕ) → value_of [] addr ≡ None
unfolding index_of
no_value addr = refl

option_cases : (o : Option ℕ) → ((value : ℕ) × (o ≡ Some value)) ⊎ (o ≡ None)
option_cases None = inr refl
option_cases (Some value) = inl (value, refl)

pub value_cases : (words : List Word) (addr : ℕ) → ((value : ℕ) × (value_of words addr ≡ Some value)) ⊎ (value_of words addr ≡ None)
value_cases words addr = option_cases (value_of words addr)

some_value : (o : Option ℕ) → IsSome o → (value : ℕ) × (o ≡ Some value)
some_value None is = cc
some_value (Some value) is = (value, refl)

pub has_value : (words : List Word) (addr : ℕ) → HasAddress words addr → (value : ℕ) × (value_of words addr ≡ Some value)
has_value words addr has = some_value (value_of words addr) ((value_exactly words addr).1 has)

pub value_has : (words : List Word) (addr value : ℕ) → value_of words addr ≡ Some value → HasAddress words addr
value_has words addr value is = (value_exactly words addr).0 (subst IsSome (sym is) (search rules))

pub none_missing : (words : List Word) (addr : ℕ) → value_of words addr ≡ None → HasAddress words addr → ⊥
none_missing words addr none has = let (value, is) = has_value words addr has in cc

pub missing_none : (words : List Word) (addr : ℕ) → ¬ HasAddress words addr → value_of words addr ≡ None
missing_none words addr missing =
    elim (value_cases words addr) [
      | inl (value, is) ↦ absurd (missing (value_has words addr value is))
      | inr none ↦ none
    ]

-- ---- an address among the addresses
pub contains_has : (words : List Word) (addr : ℕ) → Contains (addresses words) addr → HasAddress words addr
contains_has words addr (k, below, at) =
    let within : k < length words = omega (arith, below, length-map words (λ (w : Word). w.addr)) in
    has_address_at words addr k within (sym (get_or-map (λ (w : Word). w.addr) words k no_word addr within) ∙ at)

pub has_contains : (words : List Word) (addr : ℕ) → HasAddress words addr → Contains (addresses words) addr
has_contains words addr (k, word, below, at, is) = (
  k,
  omega (arith, below, length-map words (λ (w : Word). w.addr)),
  get_or-map (λ (w : Word). w.addr) words k word addr below ∙ ap (λ (w : Word). w.addr) at ∙ is,
)

-- ---- the index of a value
place_at : (words : List Word) (addr value : ℕ) (o : Option ℕ) → index_of words addr ≡ o → value_at words o ≡ Some value
    → (i : ℕ) × (i < length words) × (addr_at words i ≡ addr) × ((word_at words i).value ≡ value)
place_at words addr value None at is = cc
place_at words addr value (Some i) at is =
    let found = index_found words addr i at in
    let same : (word_at words i).value ≡ value = cc in (i, found.0, found.1, same)

pub value_place : (words : List Word) (addr value : ℕ) → value_of words addr ≡ Some value
    → (i : ℕ) × (i < length words) × (addr_at words i ≡ addr) × ((word_at words i).value ≡ value)
value_place words addr value is = place_at words addr value (index_of words addr) refl is

-- where the addresses are apart, each word has the value of its address
pub place_value : (words : List Word) (i : ℕ) → AreApart words → i < length words → value_of words (addr_at words i) ≡ Some (word_at words i).value
place_value words i apart below =
    ap (value_at words) (index_is words (addr_at words i) i below refl (λ k before. apart k i before below))

pub value_agrees : (words : List Word) (memory : List ℕ) (addr value : ℕ) → Agrees words memory → value_of words addr ≡ Some value
    → slice_get memory addr ≡ Some value
value_agrees words memory addr value agrees is =
    let (i, below, at, same) = value_place words addr value is in
    subst (λ a. slice_get memory a ≡ Some value) at (agrees i no_word below ∙ ap (λ (v : ℕ). Some v) same)

-- ---- more words
pub value_append : (words more : List Word) (addr : ℕ) → value_of (words ++ more) addr ≡ first_of (value_of words addr) (value_of more addr)
value_append [] more addr = ap (λ (o : Option ℕ). first_of o (value_of more addr)) (sym (no_value addr))
value_append (word ∷ words) more addr =
    elim (cases_eq word.addr addr) [
      | inl e ↦
          subst (λ a. value_of (word ∷ words ++ more) a ≡ first_of (value_of (word ∷ words) a) (value_of more a)) e
          (value_first word (words ++ more) ∙ ap (λ (o : Option ℕ). first_of o (value_of more word.addr)) (sym (value_first word words)))
      | inr ne ↦
          value_rest word (words ++ more) addr ne
          ∙ value_append words more addr
          ∙ ap (λ (o : Option ℕ). first_of o (value_of more addr)) (sym (value_rest word words addr ne))
    ]

-- a value stays when words join
pub value_stays : (words more : List Word) (addr value : ℕ) → value_of words addr ≡ Some value → value_of (words ++ more) addr ≡ Some value
value_stays words more addr value is =
    value_append words more addr ∙ ap (λ (o : Option ℕ). first_of o (value_of more addr)) is

pub has_left : (words more : List Word) (addr : ℕ) → HasAddress words addr → HasAddress (words ++ more) addr
has_left words more addr has =
    let (value, is) = has_value words addr has in
    value_has (words ++ more) addr value (value_stays words more addr value is)

pub has_right : (words more : List Word) (addr : ℕ) → HasAddress more addr → HasAddress (words ++ more) addr
has_right words more addr has =
    elim (value_cases words addr) [
      | inl (value, is) ↦ has_left words more addr (value_has words addr value is)
      | inr none ↦
          let (value, is) = has_value more addr has in
          value_has (words ++ more) addr value
          (value_append words more addr ∙ ap (λ (o : Option ℕ). first_of o (value_of more addr)) none ∙ is)
    ]

pub has_cases : (words more : List Word) (addr : ℕ) → HasAddress (words ++ more) addr → HasAddress words addr ⊎ HasAddress more addr
has_cases words more addr has =
    elim (value_cases words addr) [
      | inl (value, is) ↦ inl (value_has words addr value is)
      | inr none ↦
          let (value, is) = has_value (words ++ more) addr has in
          inr (value_has more addr value
          (sym (value_append words more addr ∙ ap (λ (o : Option ℕ). first_of o (value_of more addr)) none) ∙ is))
    ]

pub has_one : (word : Word) (addr : ℕ) → HasAddress (word ∷ []) addr → word.addr ≡ addr
has_one word addr has =
    elim (cases_eq word.addr addr) [
      | inl same ↦ same
      | inr other ↦ absurd (none_missing (word ∷ []) addr (value_rest word [] addr other ∙ no_value addr) has)
    ]

-- words of two lists that have no address in common
pub apart_append : (words more : List Word) → AreApart words → AreApart more → ((addr : ℕ) → HasAddress words addr → HasAddress more addr → ⊥)
    → AreApart (words ++ more)
apart_append words more one two none i j before below same = go (cases_lt i (length words)) (cases_lt j (length words))
  where
    long : length (words ++ more) ≡ length words + length more
    long = length-append words more

    left : (k : ℕ) → k < length words → addr_at (words ++ more) k ≡ addr_at words k
    left k early = ap (λ (w : Word). w.addr) (get_or_append_left words more no_word k early)

    right : (k : ℕ) → length words ≤ k → addr_at (words ++ more) k ≡ addr_at more (k - length words)
    right k late = ap (λ (w : Word). w.addr) (get_or-append_right words more (length words) k no_word refl late)

    go : (i < length words) ⊎ (length words ≤ i) → (j < length words) ⊎ (length words ≤ j) → ⊥
    go (inl first) (inl second) = one i j before second (sym (left i first) ∙ same ∙ left j second)
    go (inl first) (inr second) =
        none (addr_at words i) (has_address_at words (addr_at words i) i first refl)
        (has_address_at more (addr_at words i) (j - length words) (omega (arith, below, long)) (sym (right j second) ∙ sym same ∙ left i first))
    go (inr first) (inl second) = omega (arith, before, first, second)
    go (inr first) (inr second) =
        two (i - length words) (j - length words) (omega (arith, before, first)) (omega (arith, below, long, second))
        (sym (right i first) ∙ same ∙ right j second)

-- ---- one more write
pub has_put : (words : List Word) (addr value other : ℕ) → HasAddress (put words addr value) other → (other ≡ addr) ⊎ HasAddress words other
has_put words addr value other has =
    elim (cases_eq other addr) [
      | inl same ↦ inl same
      | inr apart ↦
          let (there, is) = has_value (put words addr value) other has in
          inr (value_has words other there (sym (put_other words addr value other apart) ∙ is))
    ]

pub put_has : (words : List Word) (addr value other : ℕ) → HasAddress words other → HasAddress (put words addr value) other
put_has words addr value other has =
    elim (cases_eq other addr) [
      | inl same ↦ subst (HasAddress (put words addr value)) (sym same) (value_has (put words addr value) addr value (put_last words addr value))
      | inr apart ↦
          let (there, is) = has_value words other has in
          value_has (put words addr value) other there (put_other words addr value other apart ∙ is)
    ]

-- ---- the memory after a commit
pub after_append : (memory : List ℕ) (words more : List Word) → after memory (words ++ more) ≡ after (after memory words) more
after_append memory [] more = refl
after_append memory (word ∷ words) more = after_append (set memory word.addr word.value) words more

-- a word is the one that the commit left there, else what it was
pub left_word : (memory : List ℕ) (commit : Commit) (addr : ℕ) → AreApart (commit.writes ++ commit.carry) → addr < length memory
    → slice_get (after_commit memory commit) addr ≡ first_of (value_of (commit.writes ++ commit.carry) addr) (slice_get memory addr)
left_word memory commit addr apart below =
    ap (λ (m : List ℕ). slice_get m addr) (sym (after_append memory commit.writes commit.carry))
    ∙ after_word memory (commit.writes ++ commit.carry) apart addr below
