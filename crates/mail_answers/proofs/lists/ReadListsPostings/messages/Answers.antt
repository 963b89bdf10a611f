-- The list of the key is that of each table that fits.
use Rattle.std.proofs.Common.{◌++◌, sym, ap, ◌∙◌}
use Rattle.mail_answers.proofs.lists.ReadListsPostings.messages.Goals as goal

pub returns-in-Ok-clause-list : goal.returns-in-Ok-clause-list
returns-in-Ok-clause-list c table has = (
  has,
  c.in-Ok.ensures.items
      ∙ ap (λ l. c.args.into.now.items ++ l) (c.deref.ensures.value ∙ has c.args.key.now c.in-Some.messages.now (sym c.in-Some.ensures.value)),
)
