-- The one region is the one that a word can be in.
use Rattle.std.proofs.Common.{◌≡◌, ◌⊎◌, Some, [], ◌∷◌, refl, subst, inl, inr, arith}
use Rattle.tx_model.specs.declared.gate.Region.{Region}
use Rattle.tx_model.specs.Words.{index_of, HasAddress}
use Rattle.tx_model.specs.Attempt.{gate_value}
use Rattle.tx_model.specs.WordLaws.{word}
use Rattle.tx_model.specs.Examples.{the_region, having}
use Rattle.tx_model.proofs.ShareNames.{contains_none}
use Rattle.tx_model.proofs.ExamplesFacts.{only_of, same_number}
use Rattle.tx_model.proofs.laws.examples.may_read_examples.Goals as goal

pub returns-clause-inside : goal.returns-clause-inside
unfolding index_of
returns-clause-inside c = record {
  gate_read = λ region among inside. subst (λ (r : Region). HasAddress (word 0 1 ∷ []) r.gate) (only_of the_region region among)
      (0, word 0 1, omega arith, refl, refl);
  readable = λ region among inside. subst (λ (r : Region). (gate_value (having (word 0 1 ∷ []) []) r.gate ≡ Some 1)
      ⊎ (gate_value (having (word 0 1 ∷ []) []) r.gate ≡ Some 3)) (only_of the_region region among) (inl refl);
  not_published = λ region among inside published. contains_none region published;
}

pub returns-clause-unseen : goal.returns-clause-unseen
returns-clause-unseen c may =
    let read = may.gate_read the_region (0, omega arith, refl) (omega arith, omega arith) in
    contains_none read.1 (read.0, read.2, read.3)

pub returns-clause-while_sealed : goal.returns-clause-while_sealed
unfolding index_of
returns-clause-while_sealed c may =
    elim (may.readable the_region (0, omega arith, refl) (omega arith, omega arith)) [
      | inl e ↦ omega (arith, same_number 2 1 e)
      | inr e ↦ omega (arith, same_number 2 3 e)
    ]

pub returns-clause-publishes : goal.returns-clause-publishes
returns-clause-publishes c may =
    may.not_published the_region (0, omega arith, refl) (omega arith, omega arith) (0, omega arith, refl)
