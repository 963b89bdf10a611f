-- The next token is the number or isn't one.
use Rattle.std.proofs.Common.{◌+◌, subst, sym}
use Rattle.ring_script.specs.Lines.{IsNumber}
use Rattle.ring_script.proofs.Tokens.{text_at}
use Rattle.ring_script.proofs.reading.named_number.Goals as goal

pub returns : goal.returns
returns c number =
    let tokens = c.args.tokens.now in
    let read = text_at tokens (c.args.at + 1) _ c.requires in
    let named = c.has_at.ensures.0 c.if-not-has_at.false in (
      λ e. record { named = named; numbered = subst (λ t. IsNumber t number) (sym read) ((c.number_of.ensures number).0 e) },
      λ is. (c.number_of.ensures number).1 (subst (λ t. IsNumber t number) read is.numbered),
    )
