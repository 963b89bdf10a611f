-- A call of `take` says all this itself.
use Rattle.mail_io.proofs.reading.take_once.Goals as goal

pub returns-in-Ok-clause-told : goal.returns-in-Ok-clause-told
returns-in-Ok-clause-told g c = c.in-Ok.ensures.told

pub returns-in-Ok-clause-cause : goal.returns-in-Ok-clause-cause
returns-in-Ok-clause-cause g c =
    let cause = c.in-Ok.ensures.cause in
    record { later = cause.later; refused = tt; kept = cause.kept; other = tt }

pub returns-in-Err-clause-cause : goal.returns-in-Err-clause-cause
returns-in-Err-clause-cause g c =
    let cause = c.in-Err.ensures.cause in
    record { later = cause.later; refused = cause.refused; kept = tt; other = λ no. absurd (no tt) }

pub returns-in-Err-clause-counted : goal.returns-in-Err-clause-counted
returns-in-Err-clause-counted g c = c.in-Err.ensures.counted
