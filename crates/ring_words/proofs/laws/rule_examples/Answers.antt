-- The middle of a run, as a table.
use Rattle.ring_words.proofs.RuleExample.{meets, too_early, other_word}
use Rattle.ring_words.proofs.laws.rule_examples.Goals as goal

pub returns-clause-meets : goal.returns-clause-meets
returns-clause-meets c = meets c.run_examples.ensures.middle c.split_shares.ensures.apart

pub returns-clause-too_early : goal.returns-clause-too_early
returns-clause-too_early c = too_early

pub returns-clause-other_word : goal.returns-clause-other_word
returns-clause-other_word c = other_word
