use Rattle.std.proofs.Common.{rules}
use Rattle.mail_gen.proofs.mailbox.top_bits.Goals as goal

pub returns-clause-bits : goal.returns-clause-bits
returns-clause-bits c = search rules
