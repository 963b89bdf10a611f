use Rattle.mail_query.proofs.Complete.{one_reading}
use Rattle.mail_query.proofs.InForm.{reads_good}
use Rattle.mail_query.proofs.laws.queries.one_reading.Goals as goal

pub returns-clause-one : goal.returns-clause-one
returns-clause-one c = one_reading

pub returns-clause-formed : goal.returns-clause-formed
returns-clause-formed c = λ text q reads. (reads_good text q c.key_and_word_give_each_other.ensures.key reads).formed

pub returns-clause-words : goal.returns-clause-words
returns-clause-words c = λ text q reads. (reads_good text q c.key_and_word_give_each_other.ensures.key reads).worded
