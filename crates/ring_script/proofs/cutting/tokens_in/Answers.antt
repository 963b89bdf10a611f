-- One more token is left where the tokens so far are as many as a line may have.
use Rattle.std.proofs.Common.{◌≡◌, ◌++◌, length, map, MatchOption, ap, subst, ◌∙◌, arith, length-append, eqb-true, sym}
use Rattle.std.proofs.lemmas.List.{length-map}
use Rattle.ring_script.specs.Lines.{tokens_of}
use Rattle.ring_script.proofs.Pieces.{some_token}
use Rattle.ring_script.proofs.cutting.tokens_in.Goals as goal

pub returns-then-is_full : goal.returns-then-is_full
returns-then-is_full c =
    let content = c.args.content.now in
    let tokens = c.loop-rest.tokens.items in
    let rest = c.in-Some.content.now in
    let so_far : tokens_of content ≡ map (λ t. t.now) tokens ++ tokens_of rest =
    subst (λ o. MatchOption o (map (λ t. t.now) tokens ≡ tokens_of content) (λ r. tokens_of content ≡ map (λ t. t.now) tokens ++ tokens_of r.now))
    c.in-Some.is c.loop-rest.invariant in
    let more = some_token rest in
    let full : length tokens ≡ 10 = eqb-true (length tokens) 10 (sym c.is_full.ensures.value ∙ c.if-is_full.true) in
    let both = ap length so_far ∙ length-append (map (λ t. t.now) tokens) (tokens_of rest) in
    let mapped = length-map tokens (λ t. t.now) in
    omega (arith, both, mapped, more, full)
