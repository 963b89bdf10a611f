use Rattle.std.proofs.Common.{◌≡◌, ◌≤◌, ◌*◌, ◌-◌, length}
use Rattle.mail_gen.specs.Generator.{message}
use Rattle.mail_gen.proofs.Parts.{parts}
use Rattle.mail_gen.proofs.mailbox.mailbox_len.Given as goal

abbrev pub invariant-loop-number : goal.invariant-loop-number
invariant-loop-number l =
    (l.len ≡ length (parts message 1 (l.number - 1))) × (l.len ≤ 500 * (l.number - 1))
