-- The one region is the one that a word can be in, or the gate of.
use Rattle.std.proofs.Common.{◌≡◌, Some, [], ◌∷◌, refl, subst, arith}
use Rattle.tx_model.specs.declared.gate.Region.{Region}
use Rattle.tx_model.specs.Words.{index_of, HasAddress}
use Rattle.tx_model.specs.Attempt.{gate_value}
use Rattle.tx_model.specs.WordLaws.{word}
use Rattle.tx_model.specs.Examples.{the_region, having}
use Rattle.tx_model.proofs.ExamplesFacts.{only_of, same_number}
use Rattle.tx_model.proofs.RuleFacts.{not_gate, may_open, may_write_opened}
use Rattle.tx_model.proofs.laws.examples.may_write_examples.Goals as goal

pub returns-clause-opens : goal.returns-clause-opens
returns-clause-opens c = may_open

pub returns-clause-inside : goal.returns-clause-inside
unfolding index_of
returns-clause-inside c = record {
  gate_read = λ region among inside. subst (λ (r : Region). HasAddress (word 0 1 ∷ []) r.gate) (only_of the_region region among)
      (0, word 0 1, omega arith, refl, refl);
  writable = λ region among inside. subst (λ (r : Region). gate_value (having (word 0 1 ∷ []) []) r.gate ≡ Some 1) (only_of the_region region among) refl;
  opens = λ region among is. absurd (not_gate region among is);
}

pub returns-clause-opened : goal.returns-clause-opened
returns-clause-opened c = may_write_opened

pub returns-clause-packed : goal.returns-clause-packed
unfolding index_of
returns-clause-packed c may =
    omega (arith, same_number 3 1 (may.writable the_region (0, omega arith, refl) (omega arith, omega arith)))
