use Rattle.std.proofs.Common.{◌≡◌, ◌-◌, ◌+◌, ◌++◌, sym, ap, ◌∙◌, arith}
use Rattle.mail_gen.specs.Generator.{message}
use Rattle.mail_gen.proofs.Parts.{parts-more, parts}
use Rattle.mail_gen.proofs.mailbox.make_mbox.Goals as goal

pub loop-number-init : goal.loop-number-init
unfolding parts
loop-number-init c = c.in_ok-bytes.ensures.items

pub loop-number-preserved : goal.loop-number-preserved
loop-number-preserved c =
    let number = c.loop-number.number in
    let count = number - 1 in
    let one_more : count + 1 ≡ number + 1 - 1 = omega (arith, c.loop-number.auto.number) in
    let next : 1 + count ≡ number = omega (arith, c.loop-number.auto.number) in
    c.in_ok-push_message.ensures
    ∙ ap (λ items. items ++ message number) c.loop-number.invariant
    ∙ sym (parts-more message 1 count number next)
    ∙ ap (parts message 1) one_more

pub returns-clause-ok : goal.returns-clause-ok
unfolding parts
returns-clause-ok c =
    let all : c.loop-number.number - 1 ≡ c.args.count = omega (arith, c.loop-number-test.false, c.loop-number.auto.number-end) in
    c.loop-number.invariant ∙ ap (parts message 1) all
