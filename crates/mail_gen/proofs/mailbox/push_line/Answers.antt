use Rattle.std.proofs.Common.{◌≡◌, ◌-◌, ◌+◌, ◌++◌, ◌∷◌, [], sym, ap, ◌∙◌, arith}
use Rattle.std.proofs.lemmas.List.{append_assoc, append-nil}
use Rattle.mail_gen.specs.Generator.{word}
use Rattle.mail_gen.proofs.Parts.{line-is, parts, parts-more, parts-none, spaced}
use Rattle.mail_gen.proofs.mailbox.push_line.Goals as goal

pub loop-number-init : goal.loop-number-init
loop-number-init c =
    let front = c.args.bytes.now.items ++ word c.args.first in
    let none = parts-none spaced (c.args.first + 1) (c.args.first + 1 - (c.args.first + 1)) (omega arith) in
    c.in_ok-push_word.ensures ∙ sym (append-nil front) ∙ ap (λ words. front ++ words) (sym none)

pub loop-number-preserved : goal.loop-number-preserved
loop-number-preserved c =
    let number = c.loop-number.number in
    let count = number - (c.args.first + 1) in
    let one_more : count + 1 ≡ number + 1 - (c.args.first + 1) = omega (arith, c.loop-number.auto.number) in
    let next : c.args.first + 1 + count ≡ number = omega (arith, c.loop-number.auto.number) in
    let front = c.args.bytes.now.items ++ word c.args.first in
    c.in_ok-push_word-2.ensures
    ∙ ap (λ items. items ++ word number) (c.in_ok-push.ensures.items ∙ ap (λ items. items ++ 32 ∷ []) c.loop-number.invariant)
    ∙ append_assoc (front ++ parts spaced (c.args.first + 1) count) (32 ∷ []) (word number)
    ∙ append_assoc front (parts spaced (c.args.first + 1) count) (spaced number)
    ∙ ap (λ words. front ++ words) (sym (parts-more spaced (c.args.first + 1) count number next))
    ∙ ap (λ longer. front ++ parts spaced (c.args.first + 1) longer) one_more

pub returns : goal.returns
returns c =
    let all : c.loop-number.number - (c.args.first + 1) ≡ 11 = omega (arith, c.loop-number-test.false, c.loop-number.auto.number-end) in
    let old = c.args.bytes.now.items in
    let first = word c.args.first in
    let others = parts spaced (c.args.first + 1) 11 in
    c.in_ok-push-2.ensures.items
    ∙ ap (λ items. items ++ 10 ∷ []) (c.loop-number.invariant ∙ ap (λ count. old ++ first ++ parts spaced (c.args.first + 1) count) all
    ∙ append_assoc old first others)
    ∙ append_assoc old (first ++ others) (10 ∷ [])
    ∙ ap (λ line. old ++ line) (sym (line-is c.args.first))
