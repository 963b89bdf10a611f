-- A token begins behind the spaces, or the line ends.
use Rattle.std.proofs.Common.{◌≡◌, ◌<◌, ◌≤◌, length, drop, get_or, ◌∙◌, ap, sym, arith, length-drop, get_or-drop, add-zero}
use Rattle.std.proofs.lemmas.List.{take_rest, drop_all}
use Rattle.ring_script.specs.Lines.{pieces, parted, tokens_of}
use Rattle.ring_script.proofs.Pieces.{past_spaces, at_token}
use Rattle.ring_script.proofs.cutting.without_spaces.Goals as goal

pub returns-then-content-at-ne32-clause-tokens : goal.returns-then-content-at-ne32-clause-tokens
returns-then-content-at-ne32-clause-tokens c =
    let content = c.args.content.now in
    let i = c.loop-at.at in
    let below : i < length content = c.loop-at-test.true in
    let some : 0 < length (drop i content) = omega (arith, length-drop i content, below) in
    let reads : get_or (drop i content) 0 0 ≡ get_or content i 0 = get_or-drop i content 0 0 ∙ ap (λ n. get_or content n 0) (add-zero i) in
    past_spaces content i (omega (arith, below)) c.loop-at.invariant
    ∙ at_token (drop i content) some (λ space. c.if-content-at-ne32.true (sym reads ∙ space))
    ∙ ap tokens_of (sym (take_rest content i))

pub returns-clause-tokens : goal.returns-clause-tokens
returns-clause-tokens c =
    let content = c.args.content.now in
    let i = c.loop-at.at in
    let end : length content ≤ i = omega (arith, c.loop-at-test.false) in
    past_spaces content (length content) (omega arith) (λ k below. c.loop-at.invariant k (omega (arith, below, end)))
    ∙ ap (λ l. parted (pieces 32 l)) (drop_all (length content) content (omega arith))
