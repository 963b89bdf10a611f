-- The words that a commit carries, and what its caller owns after it.
use Rattle.std.proofs.Common.{◌≡◌, ◌⊎◌, ℕ, zero, suc, ◌+◌, ◌<◌, ◌≤◌, ◌++◌, Bool, true, false, cond, List, [], ◌∷◌, Some, length, drop, slice_get, Contains, refl, sym, ◌∙◌, ap, subst, arith, inl, inr}
use Rattle.std.proofs.lemmas.Bool.{cases_lt, cond_both, false≢true}
use Rattle.std.proofs.lemmas.List.{length-take, length-drop, get_or-take, get_or-drop}
use Rattle.std.proofs.lemmas.Option.{slice_get-get_or}
use Rattle.tx_model.specs.declared.gate.Region.{Region}
use Rattle.tx_model.specs.declared.view.Owned.{Owned}
use Rattle.tx_model.specs.declared.word.Word.{Word}
use Rattle.tx_model.specs.Words.{word_at}
use Rattle.tx_model.specs.Made.{IsIn}
use Rattle.tx_model.specs.Memory.{words_in, words_from}
use Rattle.tx_model.specs.Attempt.{has_region, carry_of}
use Rattle.ring_worlds.proofs.lemmas.Members.{contains_more, contains_cases, contains_none}

-- ---- words
abbrev pub HasWord : List Word → ℕ → ℕ → Type 0
HasWord words addr value = (j : ℕ) × (j < length words) × ((word_at words j).addr ≡ addr) × ((word_at words j).value ≡ value)

pub has_more : (word : Word) (words : List Word) (addr value : ℕ) → HasWord words addr value → HasWord (word ∷ words) addr value
has_more word words addr value (j, below, at, is) = (suc j, omega (arith, below), at, is)

pub has_right : (words more : List Word) (addr value : ℕ) → HasWord more addr value → HasWord (words ++ more) addr value
has_right [] more addr value has = has
has_right (word ∷ words) more addr value has = has_more word (words ++ more) addr value (has_right words more addr value has)

pub has_left : (words more : List Word) (addr value : ℕ) → HasWord words addr value → HasWord (words ++ more) addr value
has_left [] more addr value (j, below, at, is) = absurd (omega (arith, below))
has_left (word ∷ words) more addr value (zero, below, at, is) = (0, omega arith, at, is)
has_left (word ∷ words) more addr value (suc j, below, at, is) =
    has_more word (words ++ more) addr value (has_left words more addr value (j, omega (arith, below), at, is))

-- a word of two lists is one of the first, or of the second
pub at_append : (words more : List Word) (j : ℕ) → j < length (words ++ more)
    → ((j < length words) × (word_at (words ++ more) j ≡ word_at words j))
    ⊎ ((i : ℕ) × (i < length more) × (length words + i ≡ j) × (word_at (words ++ more) j ≡ word_at more i))
at_append [] more j below = inr (j, below, omega arith, refl)
at_append (word ∷ words) more zero below = inl (omega arith, refl)
at_append (word ∷ words) more (suc j) below =
    elim (at_append words more j (omega (arith, below))) [
      | inl (first, is) ↦ inl (omega (arith, first), is)
      | inr (i, second, at, is) ↦ inr (i, second, omega (arith, at), is)
    ]

from_has : (base : ℕ) (values : List ℕ) (k value : ℕ) → slice_get values k ≡ Some value → HasWord (words_from base values) (base + k) value
from_has base [] k value e = absurd cc
from_has base (v ∷ values) zero value e = (0, omega arith, omega arith, cc)
from_has base (v ∷ values) (suc k) value e =
    let found = from_has (base + 1) values k value e in
    let at = found.2 in
    has_more _ (words_from (base + 1) values) (base + suc k) value (found.0, found.1, omega (arith, at), found.3)

from_within : (base : ℕ) (values : List ℕ) (j : ℕ) → j < length (words_from base values)
    → (base ≤ (word_at (words_from base values) j).addr) × ((word_at (words_from base values) j).addr < base + length values)
from_within base [] j below = absurd (omega (arith, below))
from_within base (v ∷ values) zero below = (omega arith, omega arith)
from_within base (v ∷ values) (suc j) below =
    let in' = from_within (base + 1) values j (omega (arith, below)) in (omega (arith, in'.0), omega (arith, in'.1))

-- ---- the carry
pub carry_has : (owned : List Owned) (published : List Region) (o : Owned) (k value : ℕ) → Contains owned o → has_region published o.region ≡ true
    → slice_get o.now k ≡ Some value → HasWord (carry_of owned published) (o.region.base + k) value
carry_has [] published o k value among is e = absurd (contains_none o among)
carry_has (x ∷ owned) published o k value among is e =
    elim (contains_cases x owned o among) [
      | inl same ↦
          has_left (cond (has_region published x.region) (words_from x.region.base x.now) []) (carry_of owned published) (o.region.base + k) value
          (subst (λ b. HasWord (cond b (words_from x.region.base x.now) []) (o.region.base + k) value)
          (sym (ap (λ (y : Owned). has_region published y.region) same ∙ is))
          (subst (λ (y : Owned). HasWord (words_from y.region.base y.now) (o.region.base + k) value) (sym same) (from_has o.region.base o.now k value e)))
      | inr rest ↦ has_right (cond (has_region published x.region) (words_from x.region.base x.now) []) (carry_of owned published) (o.region.base + k) value
          (carry_has owned published o k value rest is e)
    ]

-- the region of a word of the carry
pub record IsCarried (owned : List Owned) (addr : ℕ) : Type 0 where
  pub region : Owned
  pub among : Contains owned region
  pub from : region.region.base ≤ addr
  pub below : addr < region.region.base + length region.now

pub carry_from : (owned : List Owned) (published : List Region) (j : ℕ) → j < length (carry_of owned published)
    → IsCarried owned (word_at (carry_of owned published) j).addr
carry_from [] published j below = absurd (omega (arith, below))
carry_from (x ∷ owned) published j below =
    cond_both (has_region published x.region) (words_from x.region.base x.now) []
    (λ l. j < length (l ++ carry_of owned published) → IsCarried (x ∷ owned) (word_at (l ++ carry_of owned published) j).addr)
    (λ is within. elim (at_append (words_from x.region.base x.now) (carry_of owned published) j within) [
      | inl (first, same) ↦
          let in' = from_within x.region.base x.now j first in
          subst (λ (y : Word). IsCarried (x ∷ owned) y.addr) (sym same) (record { region = x; among = (0, omega arith, refl); from = in'.0; below = in'.1 })
      | inr (i, second, at, same) ↦
          subst (λ (y : Word). IsCarried (x ∷ owned) y.addr) (sym same)
          (later (word_at (carry_of owned published) i).addr (carry_from owned published i second))
    ])
    (λ is within. later (word_at (carry_of owned published) j).addr (carry_from owned published j within)) below
  where
    later : (addr : ℕ) → IsCarried owned addr → IsCarried (x ∷ owned) addr
    later addr c = record { region = c.region; among = contains_more x owned c.region c.among; from = c.from; below = c.below }

-- a published region that has this word, or none has it
module _ (published : List Region) (addr : ℕ) where
  abbrev pub NoneThere : List Owned → Type 0
  NoneThere owned = (o : Owned) → Contains owned o → has_region published o.region ≡ true → IsIn addr o.region → ⊥

  abbrev pub SoughtRegion : List Owned → Type 0
  SoughtRegion owned = ((o : Owned) × Contains owned o × (has_region published o.region ≡ true) × IsIn addr o.region) ⊎ NoneThere owned

  -- not in the first one
  past : (x : Owned) (owned : List Owned) → NoneThere owned → (has_region published x.region ≡ true → IsIn addr x.region → ⊥) → SoughtRegion (x ∷ owned)
  past x owned none out = inr (λ o among is inside. elim (contains_cases x owned o among) [
    | inl same ↦ out (ap (λ (y : Owned). has_region published y.region) same ∙ is) (subst (λ (y : Owned). IsIn addr y.region) (sym same) inside)
    | inr rest ↦ none o rest is inside
  ])

  first : (x : Owned) (owned : List Owned) → NoneThere owned → (b : Bool) → has_region published x.region ≡ b
      → (addr < x.region.base) ⊎ (x.region.base ≤ addr) → (addr < x.region.base + x.region.len) ⊎ (x.region.base + x.region.len ≤ addr)
      → SoughtRegion (x ∷ owned)
  first x owned none false e before after = past x owned none (λ is inside. false≢true (sym e ∙ is))
  first x owned none true e (inl before) after = past x owned none (λ is inside. omega (arith, before, inside.0))
  first x owned none true e (inr from) (inr late) = past x owned none (λ is inside. omega (arith, late, inside.1))
  first x owned none true e (inr from) (inl below) = inl (x, (0, omega arith, refl), e, (from, below))

  pub sought_region : (owned : List Owned) → SoughtRegion owned
  sought_region [] = inr (λ o among is inside. contains_none o among)
  sought_region (x ∷ owned) =
      elim (sought_region owned) [
        | inl (o, among, is, inside) ↦ inl (o, contains_more x owned o among, is, inside)
        | inr none ↦ first x owned none (has_region published x.region) refl (cases_lt addr x.region.base) (cases_lt addr (x.region.base + x.region.len))
      ]

-- ---- the words of a region
pub word_in : (memory : List ℕ) (region : Region) (k : ℕ) → k < region.len → region.base + region.len ≤ length memory
    → slice_get (words_in memory region) k ≡ slice_get memory (region.base + k)
word_in memory region k below inside =
    let long = length-take region.len (drop region.base memory) in
    let rest = length-drop region.base memory in
    slice_get-get_or (words_in memory region) k 0 (omega (arith, below, inside, long, rest))
    ∙ ap (λ (v : ℕ). Some v) (get_or-take region.len (drop region.base memory) k 0 below ∙ get_or-drop region.base memory k 0)
    ∙ sym (slice_get-get_or memory (region.base + k) 0 (omega (arith, below, inside)))

pub few_words : (memory : List ℕ) (region : Region) → length (words_in memory region) ≤ region.len
few_words memory region = let e = length-take region.len (drop region.base memory) in omega (arith, e)
