-- The token is compared byte by byte.
use Rattle.std.proofs.Common.{sym, ◌∙◌, arith}
use Rattle.std.proofs.lemmas.Bool.Decides.{Decides-eqb}
use Rattle.std.proofs.lemmas.Slice.Eq.{slice_eq-Decides}
use Rattle.ring_script.proofs.Tokens.{text_at, texts_length}
use Rattle.ring_script.proofs.numbers.has_at.Goals as goal

pub returns-then-at-tokens : goal.returns-then-at-tokens
returns-then-at-tokens c =
    let tokens = c.args.tokens.now in
    let count = texts_length tokens in
    let decides = slice_eq-Decides Decides-eqb _ _ _ c.eq.ensures in
    let read = text_at tokens c.args.at _ c.if-at-tokens.true in
    (λ e. (omega (arith, count, c.if-at-tokens.true), read ∙ decides.0 e), λ h. decides.1 (sym read ∙ h.1))
