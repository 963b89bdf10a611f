use Rattle.std.proofs.Common.{refl, ◌≡◌, ◌-◌, ◌+◌, length, sym, ap, ◌∙◌, arith}
use Rattle.mail_gen.specs.Generator.{message}
use Rattle.mail_gen.proofs.Parts.{length-parts-more, parts}
use Rattle.mail_gen.proofs.mailbox.mailbox_len.Goals as goal

pub loop-number-init : goal.loop-number-init
unfolding parts
loop-number-init c = (refl, omega arith)

pub loop-number-preserved : goal.loop-number-preserved
loop-number-preserved c =
    let number = c.loop-number.number in
    let count = number - 1 in
    let one_more : number + 1 - 1 ≡ count + 1 = omega (arith, c.loop-number.auto.number) in
    let next : 1 + count ≡ number = omega (arith, c.loop-number.auto.number) in
    let same : c.loop-number.len + c.message_len-len.result ≡ length (parts message 1 count) + length (message number) =
    omega (arith, c.loop-number.invariant.0, c.message_len-len.ensures.len) in (
      same ∙ sym (length-parts-more message 1 count number next) ∙ ap (λ n. length (parts message 1 n)) (sym one_more),
      omega (arith, c.loop-number.invariant.1, c.message_len-len.ensures.small, one_more),
    )

pub returns-clause-len : goal.returns-clause-len
unfolding parts
returns-clause-len c =
    let all : c.loop-number.number - 1 ≡ c.args.count = omega (arith, c.loop-number-test.false, c.loop-number.auto.number-end) in
    c.loop-number.invariant.0 ∙ ap (λ count. length (parts message 1 count)) all
