-- The second word may still be read, and both values are those of the state that the attempt reads from at the end.
use Rattle.std.proofs.Common.{arith}
use Rattle.std.proofs.lemmas.Grind.{common_steps}
use Rattle.tx_model.proofs.lemmas.Memories.{may_read_still}
use Rattle.tx_uses.proofs.ReadSteps.{had_both, with_two}
use Rattle.tx_uses.proofs.reads.read_two.Goals as goal

pub read-requires-2-clause-rule : goal.read-requires-2-clause-rule
read-requires-2-clause-rule g c =
    may_read_still c.in_ok-a.ensures.read _ _ c.requires.second_rule

pub returns-clause-both : goal.returns-clause-both
returns-clause-both g c = had_both c.requires.unwritten c.in_ok-a.ensures.read c.in_ok-b.ensures.read

pub returns-clause-reads : goal.returns-clause-reads
returns-clause-reads g c = with_two c.requires.unwritten c.in_ok-a.ensures.read c.in_ok-b.ensures.read

pub returns-in_err-a-clause-cause : goal.returns-in_err-a-clause-cause
returns-in_err-a-clause-cause g c = grind (arith, common_steps)

pub returns-in_err-b-clause-ended : goal.returns-in_err-b-clause-ended
returns-in_err-b-clause-ended g c = grind (arith, common_steps)

pub returns-in_err-b-clause-cause : goal.returns-in_err-b-clause-cause
returns-in_err-b-clause-cause g c = grind (arith, common_steps)

pub returns-clause-goes_on : goal.returns-clause-goes_on
returns-clause-goes_on g c = grind (arith, common_steps)
