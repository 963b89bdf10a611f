use Rattle.std.proofs.Common.{rules}
use Rattle.mail_io.proofs.reader_source.ReaderSourceSource.take.Goals as goal

pub returns-in-Err-clause-told : goal.returns-in-Err-clause-told
returns-in-Err-clause-told g c = search rules

pub returns-in-Err-clause-cause : goal.returns-in-Err-clause-cause
returns-in-Err-clause-cause g c = search rules
