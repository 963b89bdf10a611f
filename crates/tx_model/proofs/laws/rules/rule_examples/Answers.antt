-- What follows the rule was done move by move, and what doesn't lacks a gate or a word.
use Rattle.std.proofs.Common.{◌≡◌, ℕ, Some, None, List, [], ◌∷◌, length, refl, ap, arith, inl, inr, Contains}
use Rattle.tx_model.specs.declared.word.Word.{Word}
use Rattle.tx_model.specs.Words.{index_of}
use Rattle.tx_model.specs.Memory.{words_from}
use Rattle.tx_model.specs.WordLaws.{word}
use Rattle.tx_model.proofs.ShareNames.{contains_none}
use Rattle.tx_model.proofs.ExamplesFacts.{only_of, same_number}
use Rattle.tx_model.proofs.RuleFacts.{opening_follows, sealing_follows, publishing_follows, two_ruled}
use Rattle.tx_model.specs.Examples.{the_region}
use Rattle.tx_model.proofs.laws.rules.rule_examples.Goals as goal

pub returns-clause-opens : goal.returns-clause-opens
returns-clause-opens c = opening_follows

no_gate : (value : ℕ) → None ≡ Some value → ⊥
no_gate value e = cc

pub returns-clause-unseen : goal.returns-clause-unseen
unfolding index_of
returns-clause-unseen c follows =
    elim (follows.uses.writes_inside the_region 2 (0, omega arith, refl) (omega arith, omega arith) (0, word 2 5, omega arith, refl, refl)) [
      | inl e ↦ no_gate 1 e
      | inr (e, has) ↦ no_gate 0 e
    ]

-- the gate was read as 3, and only a 0 is made 1
pub returns-clause-reopened : goal.returns-clause-reopened
unfolding index_of
returns-clause-reopened c follows =
    elim (follows.uses.gates the_region 1 (0, omega arith, refl) refl) [
      | inl (is, read) ↦ omega (arith, same_number 3 0 read)
      | inr (inl (is, among)) ↦ omega (arith, is)
      | inr (inr (is, among)) ↦ omega (arith, is)
    ]

pub returns-clause-seals : goal.returns-clause-seals
returns-clause-seals c = sealing_follows

pub returns-clause-publishes : goal.returns-clause-publishes
returns-clause-publishes c = publishing_follows

-- the carry of both words has word 3
not_whole : (contents : List ℕ) → length contents ≡ 2 → ((other : Word) → Contains (words_from 2 contents) other → Contains (word 2 5 ∷ []) other) → ⊥
not_whole [] two all = omega (arith, two)
not_whole (first ∷ []) two all = omega (arith, two)
not_whole (first ∷ second ∷ contents) two all =
    let same : 2 ≡ 3 = ap (λ (w : Word). w.addr) (only_of (word 2 5) (word 3 second) (all (word 3 second) (1, omega arith, refl))) in
    omega (arith, same)

pub returns-clause-lost : goal.returns-clause-lost
returns-clause-lost c follows =
    let carried = follows.carries the_region (0, omega arith, refl) in
    not_whole carried.contents carried.whole carried.all

pub returns-clause-stray : goal.returns-clause-stray
returns-clause-stray c follows =
    let (region, among, inside) = follows.carried 2 (0, word 2 5, omega arith, refl, refl) in contains_none region among

pub returns-clause-ruled : goal.returns-clause-ruled
returns-clause-ruled c = two_ruled
