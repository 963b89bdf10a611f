use Rattle.mail_query.proofs.Truths.{satisfies_word, satisfies_not, satisfies_all, satisfies_any}
use Rattle.mail_query.proofs.laws.answers.truth_by_cases.Goals as goal

pub returns-clause-word : goal.returns-clause-word
returns-clause-word c = satisfies_word

pub returns-clause-negation : goal.returns-clause-negation
returns-clause-negation c = satisfies_not

pub returns-clause-all : goal.returns-clause-all
returns-clause-all c = satisfies_all

pub returns-clause-any : goal.returns-clause-any
returns-clause-any c = satisfies_any
