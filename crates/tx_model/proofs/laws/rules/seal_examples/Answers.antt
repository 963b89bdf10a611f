-- The gate is word 0.
use Rattle.std.proofs.Common.{refl, arith}
use Rattle.tx_model.specs.Words.{index_of}
use Rattle.tx_model.proofs.ExamplesFacts.{same_number}
use Rattle.tx_model.proofs.RuleFacts.{may_seal, may_publish}
use Rattle.tx_model.proofs.laws.rules.seal_examples.Goals as goal

pub returns-clause-may_seal : goal.returns-clause-may_seal
returns-clause-may_seal c = may_seal

pub returns-clause-sealed : goal.returns-clause-sealed
unfolding index_of
returns-clause-sealed c may = omega (arith, same_number 2 1 may.is_open)

pub returns-clause-with_seal : goal.returns-clause-with_seal
unfolding index_of
returns-clause-with_seal c = refl

pub returns-clause-may_publish : goal.returns-clause-may_publish
returns-clause-may_publish c = may_publish

pub returns-clause-with_publish : goal.returns-clause-with_publish
unfolding index_of
returns-clause-with_publish c = refl
