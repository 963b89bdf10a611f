use Rattle.mail_query.specs.Answers.{keys_with}
use Rattle.mail_query.specs.Truth.{satisfies}
use Rattle.mail_query.proofs.Tables.{rises_passing}
use Rattle.mail_query.proofs.laws.answers.answers_rise.Goals as goal

pub returns : goal.returns
returns c = λ q table count. rises_passing (λ number. satisfies q (keys_with table number)) count
