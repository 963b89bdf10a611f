-- The first token is another one, or the others are the numbers.
use Rattle.std.proofs.Common.{subst, sym}
use Rattle.ring_script.specs.Grammar.{AreNumbers}
use Rattle.ring_script.proofs.Tokens.{texts, texts_rest, match_weaker, named_first, first_named}
use Rattle.ring_script.proofs.numbers.named_numbers.Goals as goal

pub returns-then-not-has_at : goal.returns-then-not-has_at
returns-then-not-has_at c numbers few line =
    let first = named_first (texts c.args.tokens.now) c.args.name.now numbers line in
    let found = c.has_at.ensures.1 (first.0, first.1) in
    absurd (cc (found, c.if-not-has_at.true))

pub returns : goal.returns
returns c =
    let tokens = c.args.tokens.now in
    let name = c.args.name.now in
    let named = c.has_at.ensures.0 c.if-not-has_at.false in
    match_weaker c.numbers_of.result _ _ _ _
    (λ none numbers few line.
    let first = named_first (texts tokens) name numbers line in
    none numbers few (subst (λ ts. AreNumbers ts numbers) (sym (texts_rest tokens)) first.2))
    (λ found are. first_named (texts tokens) name found.items named.0 named.1 (subst (λ ts. AreNumbers ts found.items) (texts_rest tokens) are))
    c.numbers_of.ensures
