use Rattle.std.proofs.lemmas.Grind.{common_steps}
use Rattle.std.proofs.Common.{arith}
use Rattle.std.specs.List.Sorted.{IsStrictlySortedBy}
use Rattle.mail_words.proofs.lists.WordLists.list.Goals as goal

pub returns-clause-rises : goal.returns-clause-rises
unfolding IsStrictlySortedBy
returns-clause-rises c = tt

pub loop-chunk-preserved : goal.loop-chunk-preserved
loop-chunk-preserved c = grind (arith, common_steps)

pub returns-then-left-messages-clause-list : goal.returns-then-left-messages-clause-list
returns-then-left-messages-clause-list c = grind (arith, common_steps)

pub returns-clause-list : goal.returns-clause-list
returns-clause-list c = grind (arith, common_steps)
