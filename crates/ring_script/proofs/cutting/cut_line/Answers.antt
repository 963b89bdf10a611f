-- The line, without its carriage return, is the first one.
use Rattle.std.proofs.Common.{◌≡◌, [], ◌∷◌, MatchOption, sym, ◌∙◌, ap, subst}
use Rattle.ring_script.specs.Lines.{pieces, contents}
use Rattle.ring_script.proofs.Pieces.{next_line}
use Rattle.ring_script.proofs.cutting.cut_line.Goals as goal

pub returns-in-Some-clause-lines : goal.returns-in-Some-clause-lines
returns-in-Some-clause-lines c =
    let text = c.args.text.now in
    let rest = c.in-Some.rest.now in
    let at : MatchOption c.cut.result.1 (pieces 10 text ≡ c.cut.result.0.now ∷ []) (λ r. pieces 10 text ≡ c.cut.result.0.now ∷ pieces 10 r.now) =
    c.cut.ensures.pieces in
    let is : pieces 10 text ≡ c.cut.result.0.now ∷ pieces 10 rest =
    subst (λ o. MatchOption o (pieces 10 text ≡ c.cut.result.0.now ∷ []) (λ r. pieces 10 text ≡ c.cut.result.0.now ∷ pieces 10 r.now)) c.in-Some.is at in
    next_line text c.cut.result.0.now rest is ∙ ap (λ l. l ∷ contents (pieces 10 rest)) (sym c.without_return.ensures)
