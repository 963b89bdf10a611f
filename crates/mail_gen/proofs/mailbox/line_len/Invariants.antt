use Rattle.std.proofs.Common.{◌≡◌, ◌≤◌, ◌*◌, ◌-◌, length}
use Rattle.mail_gen.proofs.Parts.{parts, spaced}
use Rattle.mail_gen.proofs.mailbox.line_len.Given as goal

abbrev pub invariant-loop-number : goal.invariant-loop-number
invariant-loop-number l =
    (l.len ≡ length (parts spaced l.first (l.number - l.first))) × (l.len ≤ 8 * (l.number - l.first))
