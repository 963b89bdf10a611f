-- Tokens that are too many, or that aren't all numbers.
use Rattle.std.proofs.Common.{◌≡◌, ◌+◌, ◌<◌, [], ◌∷◌, ◌++◌, length, take, get_or, sym, subst, ◌∙◌, arith, length-take, eqb-true}
use Rattle.std.proofs.lemmas.List.{length-map, take_more}
use Rattle.ring_script.specs.Lines.{IsNumber}
use Rattle.ring_script.specs.Grammar.{AreNumbers}
use Rattle.ring_script.proofs.Tokens.{texts, text_at, numbers_length, numbers_push, number_at}
use Rattle.ring_script.proofs.numbers.numbers_of.Goals as goal

pub returns-then-is_full : goal.returns-then-is_full
returns-then-is_full c numbers few are =
    let tokens = c.args.tokens.now in
    let i = c.loop-token.token-index in
    let so_far = numbers_length (take i (texts tokens)) c.loop-token.numbers.items c.loop-token.invariant in
    let full : length c.loop-token.numbers.items ≡ 3 = eqb-true _ 3 (sym c.is_full.ensures.value ∙ c.if-is_full.true) in
    let taken = length-take i (texts tokens) in
    let all = length-map tokens (λ t. t.now) in
    let count = numbers_length (texts tokens) numbers are in
    absurd (omega (arith, so_far, full, taken, all, count, few, c.loop-token-test.true))

pub returns-in-None : goal.returns-in-None
returns-in-None c numbers few are =
    let tokens = c.args.tokens.now in
    let i = c.loop-token.token-index in
    let all = length-map tokens (λ t. t.now) in
    let is : IsNumber (get_or (texts tokens) i []) (get_or numbers i 0) = number_at (texts tokens) numbers i are (omega (arith, all, c.loop-token-test.true)) in
    let here = subst (λ t. IsNumber t (get_or numbers i 0)) (text_at tokens i _ c.loop-token-test.true) is in
    let found = (c.number_of.ensures (get_or numbers i 0)).1 here in
    absurd (cc (found, c.in-None.is))

pub loop-token-preserved : goal.loop-token-preserved
loop-token-preserved c =
    let tokens = c.args.tokens.now in
    let i = c.loop-token.token-index in
    let all = length-map tokens (λ t. t.now) in
    let below : i < length (texts tokens) = omega (arith, all, c.loop-token-test.true) in
    let is : IsNumber _ c.in-Some.number = (c.number_of.ensures c.in-Some.number).0 c.in-Some.is in
    let here : IsNumber (get_or (texts tokens) i []) c.in-Some.number =
    subst (λ t. IsNumber t c.in-Some.number) (sym (text_at tokens i _ c.loop-token-test.true)) is in
    let pushed = numbers_push (take i (texts tokens)) c.loop-token.numbers.items (get_or (texts tokens) i []) c.in-Some.number c.loop-token.invariant here in
    subst (λ ns. AreNumbers (take (i + 1) (texts tokens)) ns) (sym c.push.ensures.items)
    (subst (λ ts. AreNumbers ts (c.loop-token.numbers.items ++ c.in-Some.number ∷ [])) (sym (take_more (texts tokens) i [] below)) pushed)
