use Rattle.std.proofs.Common.{rules}
use Rattle.mail_io.proofs.writer_sink.write.Goals as goal

pub returns-in-Ok-eq0-clause-bound : goal.returns-in-Ok-eq0-clause-bound
returns-in-Ok-eq0-clause-bound g c = search rules

pub returns-in-Ok-eq0-clause-some : goal.returns-in-Ok-eq0-clause-some
returns-in-Ok-eq0-clause-some g c = search rules
