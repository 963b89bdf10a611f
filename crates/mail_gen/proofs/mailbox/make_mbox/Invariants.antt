use Rattle.std.proofs.Common.{◌≡◌, ◌-◌}
use Rattle.mail_gen.specs.Generator.{message}
use Rattle.mail_gen.proofs.Parts.{parts}
use Rattle.mail_gen.proofs.mailbox.make_mbox.Given as goal

abbrev pub invariant-loop-number : goal.invariant-loop-number
invariant-loop-number l = l.bytes.items ≡ parts message 1 (l.number - 1)
