use Rattle.std.proofs.Common.{◌≡◌, ◌+◌, ◌-◌, ◌++◌}
use Rattle.mail_gen.specs.Generator.{word}
use Rattle.mail_gen.proofs.Parts.{parts, spaced}
use Rattle.mail_gen.proofs.mailbox.push_line.Given as goal

abbrev pub invariant-loop-number : goal.invariant-loop-number
invariant-loop-number l =
    l.bytes.items ≡ l.fn.bytes.items ++ word l.first ++ parts spaced (l.first + 1) (l.number - (l.first + 1))
