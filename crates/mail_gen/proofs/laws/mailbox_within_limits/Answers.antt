use Rattle.mail_gen.proofs.Written.{mailbox-postings}
use Rattle.mail_gen.proofs.Parts.{mailbox-bytes}
use Rattle.mail_gen.proofs.laws.mailbox_within_limits.Goals as goal

pub returns-clause-bytes : goal.returns-clause-bytes
returns-clause-bytes c = mailbox-bytes

pub returns-clause-postings : goal.returns-clause-postings
returns-clause-postings c = mailbox-postings
