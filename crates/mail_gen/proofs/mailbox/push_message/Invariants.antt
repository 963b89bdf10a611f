use Rattle.std.proofs.Common.{◌≡◌, ◌++◌, ◌∷◌, []}
use Rattle.mail_gen.specs.Generator.{body_line, separator, subject}
use Rattle.mail_gen.proofs.Parts.{parts}
use Rattle.mail_gen.proofs.mailbox.push_message.Given as goal

abbrev pub invariant-loop-line : goal.invariant-loop-line
invariant-loop-line l =
    l.bytes.items ≡ l.fn.bytes.items ++ separator ++ subject l.number ++ 10 ∷ [] ++ parts (body_line l.number) 0 l.line
