use Rattle.std.proofs.Common.{◌≡◌, ◌++◌, ◌∷◌, [], sym, ap, ◌∙◌, arith}
use Rattle.std.proofs.lemmas.List.{append_assoc, append-nil}
use Rattle.mail_gen.specs.Generator.{body, body_line, separator, subject, text}
use Rattle.mail_gen.proofs.Parts.{parts-more, parts, text_onto}
use Rattle.mail_gen.proofs.mailbox.push_message.Goals as goal

pub loop-line-init : goal.loop-line-init
unfolding parts
loop-line-init c =
    let headed = c.in_ok-push_subject.ensures ∙ ap (λ items. items ++ subject c.args.number) c.in_ok-push_separator.ensures in
    c.in_ok-push.ensures.items
    ∙ ap (λ items. items ++ 10 ∷ []) headed
    ∙ sym (append-nil (c.args.bytes.now.items ++ separator ++ subject c.args.number ++ 10 ∷ []))

pub loop-line-preserved : goal.loop-line-preserved
loop-line-preserved c =
    let head = c.args.bytes.now.items ++ separator ++ subject c.args.number ++ 10 ∷ [] in
    let line = c.loop-line.line in
    c.in_ok-push_line.ensures
    ∙ ap (λ items. items ++ body_line c.args.number line) c.loop-line.invariant
    ∙ append_assoc head (parts (body_line c.args.number) 0 line) (body_line c.args.number line)
    ∙ ap (λ lines. head ++ lines) (sym (parts-more (body_line c.args.number) 0 line line (omega arith)))

pub returns : goal.returns
unfolding parts
returns c =
    let old = c.args.bytes.now.items in
    let all : c.loop-line.line ≡ 4 = omega (arith, c.loop-line-test.false, c.loop-line.auto.line-end) in
    c.in_ok-push-2.ensures.items
    ∙ ap (λ items. items ++ 10 ∷ []) (c.loop-line.invariant ∙ ap
    (λ lines. old ++ separator ++ subject c.args.number ++ 10 ∷ [] ++ parts (body_line c.args.number) 0 lines) all)
    ∙ text_onto (old ++ separator) (subject c.args.number) (10 ∷ []) (body c.args.number) (10 ∷ [])
    ∙ append_assoc old separator (text c.args.number)
