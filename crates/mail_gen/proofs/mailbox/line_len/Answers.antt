use Rattle.std.proofs.Common.{◌≡◌, ◌-◌, ◌+◌, length, sym, ap, ◌∙◌, arith}
use Rattle.std.specs.Prelude.{decimal}
use Rattle.mail_gen.proofs.Parts.{length-line, length-parts-more, length-spaced, parts, parts-none, spaced}
use Rattle.mail_gen.proofs.mailbox.line_len.Goals as goal

pub loop-number-init : goal.loop-number-init
loop-number-init c =
    let none = parts-none spaced c.args.first (c.args.first - c.args.first) (omega arith) in
    (sym (ap length none), omega arith)

pub loop-number-preserved : goal.loop-number-preserved
loop-number-preserved c =
    let number = c.loop-number.number in
    let count = number - c.args.first in
    let one_more : number + 1 - c.args.first ≡ count + 1 = omega (arith, c.loop-number.auto.number) in
    let next : c.args.first + count ≡ number = omega (arith, c.loop-number.auto.number) in
    let digits : c.decimal_len.result ≡ length (decimal c.top_bits.result) = c.decimal_len.ensures.len in
    let word : length (spaced number) ≡ 2 + c.decimal_len.result =
    length-spaced number ∙ ap (λ bits. 2 + length (decimal bits)) (sym c.top_bits.ensures.bits) ∙ ap (λ n. 2 + n) (sym digits) in
    let longer = length-parts-more spaced c.args.first count number next in
    let same : c.loop-number.len + (2 + c.decimal_len.result) ≡ length (parts spaced c.args.first count) + length (spaced number) =
    omega (arith, c.loop-number.invariant.0, word) in (
      same ∙ sym longer ∙ ap (λ n. length (parts spaced c.args.first n)) (sym one_more),
      omega (arith, c.loop-number.invariant.1, c.decimal_len.ensures.small (omega (arith, c.top_bits.ensures.small)), one_more),
    )

pub returns-clause-len : goal.returns-clause-len
returns-clause-len c =
    let all : c.loop-number.number - c.args.first ≡ 12 = omega (arith, c.loop-number-test.false, c.loop-number.auto.number-end) in
    c.loop-number.invariant.0 ∙ ap (λ count. length (parts spaced c.args.first count)) all ∙ sym (length-line c.args.first)
