use Rattle.std.proofs.Common.{rules}
use Rattle.std.proofs.lemmas.Fmt.{length-decimal-le}
use Rattle.mail_gen.proofs.mailbox.decimal_len.Goals as goal

pub write_digits-requires : goal.write_digits-requires
write_digits-requires c = search (rules, length-decimal-le 20)

pub returns-clause-small : goal.returns-clause-small
returns-clause-small c = search (rules, length-decimal-le 6)
