use Rattle.std.proofs.lemmas.Grind.{common_steps}
use Rattle.std.proofs.Common.{arith, rules}
use Rattle.mail_words.proofs.lists.WordLists.append.Goals as goal

pub invariant_of-self-2 : goal.invariant_of-self-2
invariant_of-self-2 c = grind (arith, common_steps)

pub invariant_of-result : goal.invariant_of-result
invariant_of-result c = search rules

pub invariant_of-self : goal.invariant_of-self
invariant_of-self c = search rules

pub returns-in_default-clause-kept : goal.returns-in_default-clause-kept
returns-in_default-clause-kept c = search rules

pub returns-in_default-clause-given_back : goal.returns-in_default-clause-given_back
returns-in_default-clause-given_back c = search rules

pub returns-clause-lists : goal.returns-clause-lists
returns-clause-lists c = grind (arith, common_steps)
