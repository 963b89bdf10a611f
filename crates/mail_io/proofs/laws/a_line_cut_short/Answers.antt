use Rattle.std.proofs.Common.{refl, lit≤}
use Rattle.mail_io.proofs.laws.a_line_cut_short.Goals as goal

pub returns-clause-cut_short : goal.returns-clause-cut_short
returns-clause-cut_short c = (3, lit≤ tt, refl)
