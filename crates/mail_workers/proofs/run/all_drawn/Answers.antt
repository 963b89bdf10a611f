-- One number more.
use Rattle.std.proofs.Common.{◌∙◌, ◌+◌, ◌++◌, ◌∷◌, [], ap, sym, rules}
use Rattle.mail_workers.proofs.Ranges.{range_push}
use Rattle.mail_workers.proofs.run.all_drawn.Goals as goal

pub loop-number-preserved : goal.loop-number-preserved
loop-number-preserved c = record {
  items = c.in-Ok.ensures.items ∙ ap (λ numbers. numbers ++ (c.loop-number.number + 1) ∷ []) c.loop-number.invariant.items
      ∙ sym (range_push c.loop-number.number);
}

pub returns : goal.returns
returns c = search rules
