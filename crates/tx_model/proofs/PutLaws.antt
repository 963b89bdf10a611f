-- What one more write leaves of the words that an attempt wrote.
use Rattle.std.proofs.Common.{◌≡◌, ◌≢◌, ℕ, ◌+◌, ◌<◌, Option, Some, None, List, [], ◌∷◌, ◌++◌, length, set, refl, sym, ◌∙◌, ap, subst, arith, inl, inr}
use Rattle.std.proofs.lemmas.Bool.{cases_lt, cases_eq}
use Rattle.std.proofs.lemmas.List.{length-set, length_push, get_or-set_same, get_or-set_other, get_or_append_left, get_or_push, map-append}
use Rattle.std.proofs.Math.Seq.{map-set_same}
use Rattle.tx_model.specs.declared.word.Word.{Word}
use Rattle.tx_model.specs.Words.{no_word, word_at, addresses, index_of, put_at, value_at, value_of, HasAddress, AreApart}
use Rattle.tx_model.specs.WordLaws.{LastValue, OtherValue, PutApart, PutLength, PutAddresses}
use Rattle.tx_model.proofs.lemmas.WordIndexes.{addr_at, index_is, index_is_none, index_found, index_first, index_missing, has_address_found, no_address}

-- ---- a known address gets a new value
module _ (words : List Word) (word : Word) (i : ℕ) (at : index_of words word.addr ≡ Some i) where
  pub changed_word : word_at (set words i word) i ≡ word
  changed_word = get_or-set_same words i word no_word (index_found words word.addr i at).0

  pub changed_addr : (k : ℕ) → addr_at (set words i word) k ≡ addr_at words k
  changed_addr k =
      elim (cases_eq k i) [
        | inl e ↦
            subst (λ n. addr_at (set words i word) n ≡ addr_at words n) (sym e)
            (ap (λ (w : Word). w.addr) changed_word ∙ sym (index_found words word.addr i at).1)
        | inr ne ↦ ap (λ (w : Word). w.addr) (get_or-set_other words i k word no_word ne)
      ]

  pub changed_addresses : addresses (set words i word) ≡ addresses words
  changed_addresses =
      map-set_same (λ (w : Word). w.addr) words i word no_word (sym (index_found words word.addr i at).1)

  -- each address keeps its index
  pub changed_index : (addr : ℕ) (o : Option ℕ) → index_of words addr ≡ o → index_of (set words i word) addr ≡ o
  changed_index addr None e =
      index_is_none (set words i word) addr
      (λ k below. λ is. index_missing words addr e k (omega (arith, below, length-set words i word)) (sym (changed_addr k) ∙ is))
  changed_index addr (Some j) e =
      let was = index_found words addr j e in
      index_is (set words i word) addr j (omega (arith, was.0, length-set words i word)) (changed_addr j ∙ was.1)
      (λ k h is. index_first words addr j e k h (sym (changed_addr k) ∙ is))

  pub changed_other : (addr : ℕ) → addr ≢ word.addr → (o : Option ℕ) → index_of words addr ≡ o → value_at (set words i word) o ≡ value_at words o
  changed_other addr ne None e = refl
  changed_other addr ne (Some j) e =
      let apart : j ≢ i = λ same. ne (sym (index_found words addr j e).1 ∙ ap (addr_at words) same ∙ (index_found words word.addr i at).1) in
      ap (λ (w : Word). Some w.value) (get_or-set_other words i j word no_word apart)

-- ---- a new address comes last
module _ (words : List Word) (word : Word) (new : index_of words word.addr ≡ None) where
  -- the words before it stay
  pub pushed_old : (k : ℕ) → k < length words → word_at (words ++ word ∷ []) k ≡ word_at words k
  pushed_old k below = get_or_append_left words (word ∷ []) no_word k below

  pub pushed_word : word_at (words ++ word ∷ []) (length words) ≡ word
  pushed_word = get_or_push words word no_word (length words) refl

  pub pushed_length : length (words ++ word ∷ []) ≡ length words + 1
  pushed_length = length_push words word

  pub pushed_own_index : index_of (words ++ word ∷ []) word.addr ≡ Some (length words)
  pushed_own_index =
      index_is (words ++ word ∷ []) word.addr (length words) (omega (arith, pushed_length)) (ap (λ (w : Word). w.addr) pushed_word)
      (λ k h is. index_missing words word.addr new k h (sym (ap (λ (w : Word). w.addr) (pushed_old k h)) ∙ is))

  pub pushed_index : (addr : ℕ) → addr ≢ word.addr → (o : Option ℕ) → index_of words addr ≡ o → index_of (words ++ word ∷ []) addr ≡ o
  pushed_index addr ne None e =
      index_is_none (words ++ word ∷ []) addr
      (λ k below is. elim (cases_lt k (length words)) [
        | inl h ↦ index_missing words addr e k h (sym (ap (λ (w : Word). w.addr) (pushed_old k h)) ∙ is)
        | inr h ↦
            let last : k ≡ length words = omega (arith, below, pushed_length, h) in
            ne (sym is ∙ ap (addr_at (words ++ word ∷ [])) last ∙ ap (λ (w : Word). w.addr) pushed_word)
      ])
  pushed_index addr ne (Some j) e =
      let was = index_found words addr j e in
      index_is (words ++ word ∷ []) addr j (omega (arith, was.0, pushed_length)) (ap (λ (w : Word). w.addr) (pushed_old j was.0) ∙ was.1)
      (λ k h is. index_first words addr j e k h (sym (ap (λ (w : Word). w.addr) (pushed_old k (omega (arith, h, was.0)))) ∙ is))

  pub pushed_other : (addr : ℕ) (o : Option ℕ) → index_of words addr ≡ o → value_at (words ++ word ∷ []) o ≡ value_at words o
  pushed_other addr None e = refl
  pushed_other addr (Some j) e = ap (λ (w : Word). Some w.value) (pushed_old j (index_found words addr j e).0)

-- ---- the laws
module _ (words : List Word) (word : Word) where
  last_value : (o : Option ℕ) → index_of words word.addr ≡ o → value_of (put_at o words word) word.addr ≡ Some word.value
  last_value None e =
      ap (value_at (words ++ word ∷ [])) (pushed_own_index words word e) ∙ ap (λ (w : Word). Some w.value) (pushed_word words word e)
  last_value (Some i) e =
      ap (value_at (set words i word)) (changed_index words word i e word.addr (Some i) e) ∙ ap (λ (w : Word). Some w.value) (changed_word words word i e)

  other_value : (addr : ℕ) → addr ≢ word.addr → (o : Option ℕ) → index_of words word.addr ≡ o → value_of (put_at o words word) addr ≡ value_of words addr
  other_value addr ne None e =
      ap (value_at (words ++ word ∷ [])) (pushed_index words word e addr ne (index_of words addr) refl)
      ∙ pushed_other words word e addr (index_of words addr) refl
  other_value addr ne (Some i) e =
      ap (value_at (set words i word)) (changed_index words word i e addr (index_of words addr) refl)
      ∙ changed_other words word i e addr ne (index_of words addr) refl

  apart_after : AreApart words → (o : Option ℕ) → index_of words word.addr ≡ o → AreApart (put_at o words word)
  apart_after apart None e i j before below same =
      elim (cases_lt j (length words)) [
        | inl h ↦
            apart i j before h (sym (ap (λ (w : Word). w.addr) (pushed_old words word e i (omega (arith, before, h)))) ∙ same
            ∙ ap (λ (w : Word). w.addr) (pushed_old words word e j h))
        | inr h ↦
            let last : j ≡ length words = omega (arith, below, pushed_length words word e, h) in
            let early : i < length words = omega (arith, before, last) in
            index_missing words word.addr e i early
            (sym (ap (λ (w : Word). w.addr) (pushed_old words word e i early)) ∙ same ∙ ap (addr_at (words ++ word ∷ [])) last
            ∙ ap (λ (w : Word). w.addr) (pushed_word words word e))
      ]
  apart_after apart (Some n) e i j before below same =
      apart i j before (omega (arith, below, length-set words n word))
      (sym (changed_addr words word n e i) ∙ same ∙ changed_addr words word n e j)

  length_after : (o : Option ℕ) → index_of words word.addr ≡ o → (HasAddress words word.addr → length (put_at o words word) ≡ length words)
      × ((HasAddress words word.addr → ⊥) → length (put_at o words word) ≡ length words + 1)
  length_after None e = (λ has. absurd (no_address words word.addr e has), λ new. pushed_length words word e)
  length_after (Some i) e = (λ has. length-set words i word, λ new. absurd (new (has_address_found words word.addr i e)))

  addresses_after : (o : Option ℕ) → index_of words word.addr ≡ o → (HasAddress words word.addr → addresses (put_at o words word) ≡ addresses words)
      × ((HasAddress words word.addr → ⊥) → addresses (put_at o words word) ≡ addresses words ++ word.addr ∷ [])
  addresses_after None e = (λ has. absurd (no_address words word.addr e has), λ new. map-append (λ (w : Word). w.addr) words (word ∷ []))
  addresses_after (Some i) e = (λ has. changed_addresses words word i e, λ new. absurd (new (has_address_found words word.addr i e)))

pub put_last : LastValue
put_last words addr value = last_value words (record { addr = addr; value = value }) (index_of words addr) refl

pub put_other : OtherValue
put_other words addr value other ne = other_value words (record { addr = addr; value = value }) other ne (index_of words addr) refl

pub put_apart : PutApart
put_apart words addr value apart = apart_after words (record { addr = addr; value = value }) apart (index_of words addr) refl

pub put_length : PutLength
put_length words addr value = length_after words (record { addr = addr; value = value }) (index_of words addr) refl

pub put_addresses : PutAddresses
put_addresses words addr value = addresses_after words (record { addr = addr; value = value }) (index_of words addr) refl
