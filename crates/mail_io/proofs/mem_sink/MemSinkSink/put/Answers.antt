use Rattle.std.proofs.Common.{rules}
use Rattle.mail_io.proofs.mem_sink.MemSinkSink.put.Goals as goal

pub returns-then-contains-clause-told : goal.returns-then-contains-clause-told
returns-then-contains-clause-told c = search rules

pub returns-then-contains-clause-want_cause : goal.returns-then-contains-clause-want_cause
returns-then-contains-clause-want_cause c = search rules

pub returns-then-contains-clause-exactly_wanted : goal.returns-then-contains-clause-exactly_wanted
returns-then-contains-clause-exactly_wanted c = search rules
