-- The words of a memory after writes.
use Rattle.std.proofs.Common.{◌≡◌, ◌≢◌, ℕ, ◌<◌, Option, Some, None, List, [], ◌∷◌, zero, suc, length, set, slice_get, refl, sym, ◌∙◌, ap, subst, arith, inl, inr}
use Rattle.std.proofs.lemmas.Bool.{cases_eq}
use Rattle.std.proofs.lemmas.List.{length-set}
use Rattle.tx_model.specs.declared.word.Word.{Word}
use Rattle.tx_model.specs.Words.{index_of, value_at, value_of, AreApart}
use Rattle.tx_model.specs.Attempt.{first_of}
use Rattle.tx_model.specs.Laws.{AfterWord}
use Rattle.tx_model.proofs.lemmas.WordIndexes.{addr_at, index_is, index_is_none, index_found, index_first, index_missing}

get_set_same : (memory : List ℕ) (addr value : ℕ) → addr < length memory → slice_get (set memory addr value) addr ≡ Some value
get_set_same [] addr value below = absurd (omega (arith, below))
get_set_same (first ∷ memory) zero value below = refl
get_set_same (first ∷ memory) (suc addr) value below = get_set_same memory addr value (omega (arith, below))

get_set_other : (memory : List ℕ) (at addr value : ℕ) → addr ≢ at → slice_get (set memory at value) addr ≡ slice_get memory addr
get_set_other [] at addr value apart = refl
get_set_other (first ∷ memory) zero zero value apart = absurd (apart refl)
get_set_other (first ∷ memory) zero (suc addr) value apart = refl
get_set_other (first ∷ memory) (suc at) zero value apart = refl
get_set_other (first ∷ memory) (suc at) (suc addr) value apart =
    get_set_other memory at addr value (λ e. apart (ap suc e))

-- ---- the value of an address, by the first word and the others
module _ (word : Word) (words : List Word) where
  pub value_first : value_of (word ∷ words) word.addr ≡ Some word.value
  value_first =
      ap (value_at (word ∷ words)) (index_is (word ∷ words) word.addr 0 (omega arith) refl (λ k h. absurd (omega (arith, h))))

  rest_index : (addr : ℕ) → word.addr ≢ addr → (o : Option ℕ) → index_of words addr ≡ o → value_of (word ∷ words) addr ≡ value_at words o
  rest_index addr apart None e =
      ap (value_at (word ∷ words))
      (index_is_none (word ∷ words) addr none)
    where
      none : (k : ℕ) → k < length (word ∷ words) → addr_at (word ∷ words) k ≢ addr
      none zero below = apart
      none (suc k) below = index_missing words addr e k (omega (arith, below))
  rest_index addr apart (Some i) e =
      let at = index_found words addr i e in
      ap (value_at (word ∷ words)) (index_is (word ∷ words) addr (suc i) (omega (arith, at.0)) at.1 earlier)
    where
      earlier : (k : ℕ) → k < suc i → addr_at (word ∷ words) k ≢ addr
      earlier zero below = apart
      earlier (suc k) below = index_first words addr i e k (omega (arith, below))

  pub value_rest : (addr : ℕ) → word.addr ≢ addr → value_of (word ∷ words) addr ≡ value_of words addr
  value_rest addr apart = rest_index addr apart (index_of words addr) refl

  -- where the addresses are apart, the others don't have that of the first word
  value_once : AreApart (word ∷ words) → value_of words word.addr ≡ None
  value_once apart =
      ap (value_at words) (index_is_none words word.addr (λ k below e. apart 0 (suc k) (omega arith) (omega (arith, below)) (sym e)))

apart_rest : (word : Word) (words : List Word) → AreApart (word ∷ words) → AreApart words
apart_rest word words apart i j before below = apart (suc i) (suc j) (omega (arith, before)) (omega (arith, below))

pub after_word : AfterWord
unfolding index_of
after_word memory [] apart addr below = refl
after_word memory (word ∷ words) apart addr below =
    let rest = after_word (set memory word.addr word.value) words (apart_rest word words apart) addr
    (omega (arith, below, length-set memory word.addr word.value)) in
    elim (cases_eq addr word.addr) [
      | inl e ↦ rest ∙ same e
      | inr ne ↦
          rest
          ∙ ap (first_of (value_of words addr)) (get_set_other memory word.addr addr word.value ne)
          ∙ ap (λ (o : Option ℕ). first_of o (slice_get memory addr)) (sym (value_rest word words addr (λ e. ne (sym e))))
    ]
  where
    same : addr ≡ word.addr → first_of (value_of words addr) (slice_get (set memory word.addr word.value) addr) ≡ first_of (value_of (word ∷ words) addr)
        (slice_get memory addr)
    same e =
        let inside : word.addr < length memory = omega (arith, below, e) in
        subst (λ a. first_of (value_of words a) (slice_get (set memory word.addr word.value) a) ≡ first_of (value_of (word ∷ words) a) (slice_get memory a))
        (sym e)
        (ap (λ (o : Option ℕ). first_of o (slice_get (set memory word.addr word.value) word.addr)) (value_once word words apart)
        ∙ get_set_same memory word.addr word.value inside
        ∙ ap (λ (o : Option ℕ). first_of o (slice_get memory word.addr)) (sym (value_first word words)))
