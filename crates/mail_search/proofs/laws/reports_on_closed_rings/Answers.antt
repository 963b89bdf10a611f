use Rattle.std.proofs.Common.{refl}
use Rattle.std.specs.Fmt.{digits}
use Rattle.mail_search.proofs.laws.reports_on_closed_rings.Goals as goal

pub returns-clause-no_commit : goal.returns-clause-no_commit
unfolding digits
returns-clause-no_commit c = refl

pub returns-clause-three_commits : goal.returns-clause-three_commits
unfolding digits
returns-clause-three_commits c = refl
