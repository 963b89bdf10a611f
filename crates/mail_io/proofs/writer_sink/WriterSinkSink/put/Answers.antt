use Rattle.std.proofs.Common.{rules}
use Rattle.mail_io.proofs.writer_sink.WriterSinkSink.put.Goals as goal

pub returns-in-None-clause-fault_cause : goal.returns-in-None-clause-fault_cause
returns-in-None-clause-fault_cause g c = search rules
