use Rattle.std.proofs.Common.{refl}
use Rattle.std.specs.Fmt.{digits}
use Rattle.mail_search.proofs.laws.refused_script.Goals as goal

pub returns-clause-note : goal.returns-clause-note
unfolding digits
returns-clause-note c = refl
