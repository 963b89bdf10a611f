use Rattle.std.proofs.Common.{◌≡◌, ◌-◌, ◌+◌, ◌*◌, length, ap, ◌∙◌, arith}
use Rattle.mail_gen.specs.Generator.{body_line, line_of_words}
use Rattle.mail_gen.proofs.Parts.{length-message}
use Rattle.mail_gen.proofs.mailbox.message_len.Goals as goal

pub returns-clause-len : goal.returns-clause-len
returns-clause-len c =
    let number = c.args.number in
    let first = 48 * (number - 1) + 1 in
    let zero : c.line_len.result ≡ length (body_line number 0) =
    c.line_len.ensures.len ∙ ap (λ word. length (line_of_words word)) (omega arith) in
    let one : c.line_len-2.result ≡ length (body_line number 1) =
    c.line_len-2.ensures.len ∙ ap (λ word. length (line_of_words word)) (omega arith) in
    let two : c.line_len-3.result ≡ length (body_line number 2) =
    c.line_len-3.ensures.len ∙ ap (λ word. length (line_of_words word)) (omega arith) in
    let three : c.line_len-4.result ≡ length (body_line number 3) =
    c.line_len-4.ensures.len ∙ ap (λ word. length (line_of_words word)) (omega arith) in
    omega (arith, length-message number, zero, one, two, three, c.decimal_len-subject.ensures.len)
