-- What the two passes came to, together.
use Rattle.std.proofs.Common.{ap}
use Rattle.mail_workers.proofs.Teams.{gained_joined}
use Rattle.mail_workers.proofs.run.take_back.Goals as goal

pub returns-in-Ok-clause-gained : goal.returns-in-Ok-clause-gained
returns-in-Ok-clause-gained g c = λ first before indexed was.
    gained_joined was indexed c.requires.ready.owns_none c.join.ensures.joined (ap (λ v. v.drawn) c.join-2.ensures.joined)

pub returns-in-Err-clause-gained : goal.returns-in-Err-clause-gained
returns-in-Err-clause-gained g c = λ first before indexed was.
    gained_joined was indexed c.requires.ready.owns_none c.join.ensures.joined (ap (λ v. v.drawn) c.join-2.ensures.joined)
