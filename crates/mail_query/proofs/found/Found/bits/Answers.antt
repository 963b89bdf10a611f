use Rattle.std.proofs.Common.{rules}
use Rattle.mail_query.proofs.found.Found.bits.Goals as goal

pub returns-in-Few-clause-numbers : goal.returns-in-Few-clause-numbers
returns-in-Few-clause-numbers c = search rules
