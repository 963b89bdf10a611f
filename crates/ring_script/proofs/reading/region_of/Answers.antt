-- The line has three numbers.
use Rattle.std.proofs.Common.{◌≡◌, [], ◌∷◌, codes, sym, ◌∙◌, ap, subst}
use Rattle.ring_script.specs.Grammar.{IsNamedLine}
use Rattle.ring_script.specs.Names.{region_in}
use Rattle.ring_script.proofs.Tokens.{texts, line_same}
use Rattle.ring_script.proofs.Said.{region_is}
use Rattle.ring_script.proofs.reading.region_of.Goals as goal

pub returns : goal.returns
returns c region =
    let tokens = texts c.args.tokens.now in
    let items = c.in_ok-numbers.numbers.items in
    let line : IsNamedLine tokens (codes "region") items = c.in_ok-numbers.ensures in
    let result : c.region_in.result ≡ region_in items = c.region_in.ensures ∙ ap region_in c.as_slice.ensures.value in (
      λ e. subst (λ ns. IsNamedLine tokens (codes "region") ns) (region_is items region (sym result ∙ e)) line,
      λ is. result ∙ ap region_in (line_same tokens (codes "region") items (region.gate ∷ region.base ∷ region.len ∷ []) line is),
    )
