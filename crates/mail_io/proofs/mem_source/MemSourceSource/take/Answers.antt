use Rattle.std.proofs.Common.{rules}
use Rattle.mail_io.proofs.mem_source.MemSourceSource.take.Goals as goal

pub returns-clause-exactly_failed : goal.returns-clause-exactly_failed
returns-clause-exactly_failed c = search rules
