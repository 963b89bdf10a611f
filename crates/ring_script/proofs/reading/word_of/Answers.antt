-- The line has two numbers.
use Rattle.std.proofs.Common.{◌≡◌, [], ◌∷◌, codes, sym, ◌∙◌, ap, subst}
use Rattle.ring_script.specs.Grammar.{IsNamedLine}
use Rattle.ring_script.specs.Names.{word_in}
use Rattle.ring_script.proofs.Tokens.{texts, line_same}
use Rattle.ring_script.proofs.Said.{word_is}
use Rattle.ring_script.proofs.reading.word_of.Goals as goal

pub returns : goal.returns
returns c word =
    let tokens = texts c.args.tokens.now in
    let items = c.in_ok-numbers.numbers.items in
    let line : IsNamedLine tokens (codes "word") items = c.in_ok-numbers.ensures in
    let result : c.word_in.result ≡ word_in items = c.word_in.ensures ∙ ap word_in c.as_slice.ensures.value in (
      λ e. subst (λ ns. IsNamedLine tokens (codes "word") ns) (word_is items word (sym result ∙ e)) line,
      λ is. result ∙ ap word_in (line_same tokens (codes "word") items (word.addr ∷ word.value ∷ []) line is),
    )
