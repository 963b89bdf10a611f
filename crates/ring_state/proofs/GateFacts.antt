-- The first values at gates, as words are read.
use Rattle.std.proofs.Common.{◌≡◌, ◌≢◌, ℕ, ◌++◌, List, [], ◌∷◌, Option, Some, None, Contains, refl, sym, ◌∙◌, ap, subst, inl, inr}
use Rattle.std.proofs.lemmas.Bool.{cases_eq}
use Rattle.tx_model.specs.declared.word.Word.{Word}
use Rattle.tx_model.specs.Words.{value_of}
use Rattle.tx_model.specs.Attempt.{first_of}
use Rattle.tx_model.proofs.lemmas.Values.{no_value, value_append, value_rest, value_stays}

first_of_none : (o : Option ℕ) → first_of o None ≡ o
first_of_none None = refl
first_of_none (Some value) = refl

-- the first value at another address stays
pub value_else : (reads : List Word) (read : Word) (addr : ℕ) → read.addr ≢ addr → value_of (reads ++ read ∷ []) addr ≡ value_of reads addr
value_else reads read addr other =
    value_append reads (read ∷ []) addr
    ∙ ap (first_of (value_of reads addr)) (value_rest read [] addr other ∙ no_value addr)
    ∙ first_of_none (value_of reads addr)

abbrev pub Agree : List ℕ → List Word → List Word → Type 0
Agree gates seen reads = (gate : ℕ) → Contains gates gate → value_of seen gate ≡ value_of reads gate

module _ (gates : List ℕ) (seen reads : List Word) (known : Agree gates seen reads) (read : Word) where
  -- the read joins both
  pub joins_both : Agree gates (seen ++ read ∷ []) (reads ++ read ∷ [])
  joins_both gate among =
      value_append seen (read ∷ []) gate ∙ ap (λ (o : Option ℕ). first_of o (value_of (read ∷ []) gate)) (known gate among)
      ∙ sym (value_append reads (read ∷ []) gate)

  -- it is at no gate
  pub joins_reads : (Contains gates read.addr → ⊥) → Agree gates seen (reads ++ read ∷ [])
  joins_reads none gate among =
      known gate among ∙ sym (value_else reads read gate (λ e. none (subst (Contains gates) (sym e) among)))

  -- or at one that was read before
  pub joins_known : (value : ℕ) → Contains gates read.addr → value_of seen read.addr ≡ Some value → Agree gates seen (reads ++ read ∷ [])
  joins_known value here is gate among =
      elim (cases_eq read.addr gate) [
        | inl same ↦
            subst (λ a. value_of seen a ≡ value_of (reads ++ read ∷ []) a) same
            (is ∙ sym (value_stays reads (read ∷ []) read.addr value (sym (known read.addr here) ∙ is)))
        | inr other ↦ known gate among ∙ sym (value_else reads read gate other)
      ]
