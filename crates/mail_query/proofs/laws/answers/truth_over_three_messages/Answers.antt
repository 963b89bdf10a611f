use Rattle.std.proofs.Common.{[], ◌∷◌}
use Rattle.mail_query.specs.Examples.{hello, ring, bloom, subject}
use Rattle.mail_query.proofs.Truths.{satisfies_word}
use Rattle.mail_query.proofs.Worked.{without_ring, one_of_two}
use Rattle.mail_query.proofs.laws.answers.truth_over_three_messages.Goals as goal

pub returns-clause-word : goal.returns-clause-word
returns-clause-word c = satisfies_word ring (hello ∷ ring ∷ subject ∷ [])

pub returns-clause-no_word : goal.returns-clause-no_word
returns-clause-no_word c = satisfies_word ring (bloom ∷ hello ∷ subject ∷ [])

pub returns-clause-first : goal.returns-clause-first
returns-clause-first c = without_ring (hello ∷ ring ∷ subject ∷ [])

pub returns-clause-second : goal.returns-clause-second
returns-clause-second c = without_ring (bloom ∷ hello ∷ subject ∷ [])

pub returns-clause-third : goal.returns-clause-third
returns-clause-third c = without_ring (bloom ∷ ring ∷ [])

pub returns-clause-one_of_two : goal.returns-clause-one_of_two
returns-clause-one_of_two c = one_of_two (bloom ∷ hello ∷ subject ∷ [])
