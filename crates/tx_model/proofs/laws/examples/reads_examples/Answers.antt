-- The attempt to publish has written the gate.
use Rattle.std.proofs.Common.{rules}
use Rattle.tx_model.proofs.laws.examples.reads_examples.Goals as goal

pub returns-clause-with_reads : goal.returns-clause-with_reads
returns-clause-with_reads c = search rules

pub returns-clause-only : goal.returns-clause-only
returns-clause-only c = search rules

pub returns-clause-not_only : goal.returns-clause-not_only
returns-clause-not_only c only = let none = only.writes in cc
