-- Where an address is among the words that an attempt wrote.
use Rattle.std.proofs.Common.{◌≡◌, ◌≢◌, ℕ, ◌<◌, ◌≤◌, ◌==◌, nat_lt, true, Option, Some, None, IsSome, List, length, get_or, refl, sym, ◌∙◌, ap, arith, rules, inl, inr, eq-eqb}
use Rattle.std.specs.List.{position_or_len}
use Rattle.std.proofs.lemmas.Bool.{cases_lt, cond-true, cond-false, eqb-true, eqb-false, ne_eqb, lt-ltb, le-ltb, false≢true}
use Rattle.std.proofs.lemmas.List.{get_or_default}
use Rattle.std.proofs.lemmas.List.Sums.{position_or_len_is, fails_before_first}
use Rattle.std.proofs.lemmas.List.Quantifiers.{position-Some}
use Rattle.tx_model.specs.declared.word.Word.{Word}
use Rattle.tx_model.specs.Words.{no_word, word_at, index_of, value_at, HasAddress}
use Rattle.tx_model.specs.WordLaws.{ValueExactly}

abbrev pub addr_at : List Word → ℕ → ℕ
addr_at words k = (word_at words k).addr

-- ---- the index of an address, from the addresses
pub index_is : (words : List Word) (addr i : ℕ) → i < length words → addr_at words i ≡ addr → ((k : ℕ) → k < i → addr_at words k ≢ addr)
    → index_of words addr ≡ Some i
unfolding index_of
index_is words addr i below at before =
    let e : position_or_len (λ w. w.addr == addr) words ≡ i =
    position_or_len_is (λ w. w.addr == addr) words i no_word (omega arith) (λ k h. ne_eqb _ _ (before k h)) (λ _. eq-eqb _ _ at)
    in
    rw e (cond-true _ (Some i) None (lt-ltb _ _ below))

pub index_is_none : (words : List Word) (addr : ℕ) → ((k : ℕ) → k < length words → addr_at words k ≢ addr) → index_of words addr ≡ None
unfolding index_of
index_is_none words addr apart =
    let e : position_or_len (λ w. w.addr == addr) words ≡ length words =
    position_or_len_is (λ w. w.addr == addr) words (length words) no_word (omega arith) (λ k h. ne_eqb _ _ (apart k h)) (λ h. absurd (omega (arith, h)))
    in
    rw e (cond-false _ (Some (length words)) None (le-ltb _ _ (omega arith)))

-- ---- the addresses, from the index of one
pub index_found : (words : List Word) (addr i : ℕ) → index_of words addr ≡ Some i → (i < length words) × (addr_at words i ≡ addr)
unfolding index_of
index_found words addr i e =
    let at = position-Some (λ word. word.addr == addr) words i no_word e in
    (at.0, eqb-true _ _ at.1)

-- it is the first one
pub index_first : (words : List Word) (addr i : ℕ) → index_of words addr ≡ Some i → (k : ℕ) → k < i → addr_at words k ≢ addr
unfolding index_of
index_first words addr i e k h =
    eqb-false _ _ ((position-Some (λ w. w.addr == addr) words i no_word e).2 k h)

-- an address that is among the words has an index
pub index_exists : (words : List Word) (addr : ℕ) → HasAddress words addr → index_of words addr ≢ None
unfolding index_of
index_exists words addr (k, word, below, at, is) none =
    let short : position_or_len (λ w. w.addr == addr) words ≤ k = at_most in
    let some : nat_lt (position_or_len (λ w. w.addr == addr) words) (length words) ≡ true = lt-ltb _ _ (omega (arith, short, below)) in
    let e : Some (position_or_len (λ w. w.addr == addr) words) ≡ None =
    sym (cond-true _ (Some (position_or_len (λ w. w.addr == addr) words)) None some) ∙ none in
    cc
  where
    at_most : position_or_len (λ w. w.addr == addr) words ≤ k
    at_most =
        elim (cases_lt k (position_or_len (λ w. w.addr == addr) words)) [
          | inl early ↦
              let fails = fails_before_first (λ w. w.addr == addr) words k word early in
              let passes : ((get_or words k word).addr == addr) ≡ true = eq-eqb _ _ (ap (λ (w : Word). w.addr) at ∙ is) in
              absurd (false≢true (sym fails ∙ passes))
          | inr late ↦ late
        ]

pub has_address_at : (words : List Word) (addr k : ℕ) → k < length words → addr_at words k ≡ addr → HasAddress words addr
has_address_at words addr k below is =
    (k, word_at words k, below, get_or_default words k (word_at words k) no_word below, is)

-- an address that has an index is among the words
pub has_address_found : (words : List Word) (addr i : ℕ) → index_of words addr ≡ Some i → HasAddress words addr
has_address_found words addr i e =
    let at = index_found words addr i e in
    has_address_at words addr i at.0 at.1

-- where an address has no index, no word has it
pub index_missing : (words : List Word) (addr : ℕ) → index_of words addr ≡ None → (k : ℕ) → k < length words → addr_at words k ≢ addr
index_missing words addr none k below is =
    index_exists words addr (has_address_at words addr k below is) none

pub no_address : (words : List Word) (addr : ℕ) → index_of words addr ≡ None → HasAddress words addr → ⊥
no_address words addr none has = index_exists words addr has none

-- ---- a value is there exactly where the address is
some_value : (words : List Word) (addr : ℕ) (o : Option ℕ) → index_of words addr ≡ o → HasAddress words addr → IsSome (value_at words o)
some_value words addr None e has = absurd (index_exists words addr has e)
some_value words addr (Some i) e has = search rules

has_value : (words : List Word) (addr : ℕ) (o : Option ℕ) → index_of words addr ≡ o → IsSome (value_at words o) → HasAddress words addr
has_value words addr None e some = cc
has_value words addr (Some i) e some = has_address_found words addr i e

pub value_exactly : ValueExactly
value_exactly words addr =
    (has_value words addr (index_of words addr) refl, some_value words addr (index_of words addr) refl)
