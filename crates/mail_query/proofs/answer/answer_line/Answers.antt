use Rattle.std.proofs.Common.{arith, ◌∷◌, ◌++◌, length, get_or, ap, ◌∙◌, rules}
use Rattle.std.proofs.lemmas.Grind.{common_steps}
use Rattle.std.specs.Prelude.{codes, decimal}
use Rattle.mail_query.proofs.Shown.{shown-more}
use Rattle.mail_query.proofs.answer.answer_line.Goals as goal

pub loop-hit-preserved : goal.loop-hit-preserved
loop-hit-preserved c =
    let front = decimal (length c.args.hits.now) ++ codes ":" in
    c.in_ok-write.ensures.bytes ∙ ap (λ l. l ++ 32 ∷ decimal (get_or c.args.hits.now c.loop-hit.hit-index 0)) c.loop-hit.invariant
    ∙ shown-more front c.args.hits.now c.loop-hit.hit-index c.loop-hit-test.true

pub loop-hit-init : goal.loop-hit-init
loop-hit-init c = search rules

pub returns : goal.returns
returns c = grind (arith, common_steps)
