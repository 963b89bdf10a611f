use Rattle.tx_model.proofs.PassFacts.{the_pass_known, the_owner_known, the_publisher_known}
use Rattle.tx_model.proofs.laws.examples.known_examples.Goals as goal

pub returns-clause-pass : goal.returns-clause-pass
returns-clause-pass c = the_pass_known

pub returns-clause-owner : goal.returns-clause-owner
returns-clause-owner c = the_owner_known

pub returns-clause-stamped : goal.returns-clause-stamped
returns-clause-stamped c = the_publisher_known
