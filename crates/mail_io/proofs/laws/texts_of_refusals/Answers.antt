use Rattle.std.proofs.Common.{refl}
use Rattle.std.specs.Fmt.{digits}
use Rattle.mail_io.proofs.laws.texts_of_refusals.Goals as goal

pub returns-clause-write : goal.returns-clause-write
unfolding digits
returns-clause-write c = refl

pub returns-clause-want : goal.returns-clause-want
unfolding digits
returns-clause-want c = refl
