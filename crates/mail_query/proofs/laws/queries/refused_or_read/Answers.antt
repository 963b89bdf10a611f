use Rattle.mail_query.specs.Reading.{reading_text}
use Rattle.mail_query.proofs.Sound.{sound}
use Rattle.mail_query.proofs.Limits.{within_limits, unrefused}
use Rattle.mail_query.proofs.laws.queries.refused_or_read.Goals as goal

pub returns : goal.returns
returns c = λ text.
    (λ none. (within_limits text none, (reading_text text, sound text none)), λ read. unrefused text read.1.0 read.1.1 read.0)
