-- What was read, or why it wasn't.
use Rattle.std.proofs.Common.{List, ap, subst}
use Rattle.tx_model.specs.declared.view.Attempt.{Attempt}
use Rattle.mail_words.specs.Key.{KeyNumbers}
use Rattle.mail_answers.specs.Asking.{DidRead}
use Rattle.mail_answers.proofs.AskSteps.{did_read}
use Rattle.mail_answers.proofs.attempt.AskingBodyMailSense.attempt.Goals as goal

pub read_lists-requires-clause-none : goal.read_lists-requires-clause-none
read_lists-requires-clause-none g c = (ap (λ (a : Attempt). a.writes) c.requires.fresh, ap (λ (a : Attempt). a.published) c.requires.fresh)

pub returns-in-Ok-clause-did : goal.returns-in-Ok-clause-did
returns-in-Ok-clause-did g c =
    let made = g.M.TxMemory.made c.args.mem.now in
    subst (λ (keys : List KeyNumbers). DidRead made.sense made.opening keys c.in-Ok.read.lists (g.M.TxMemory.attempt c.read_lists.new.pass))
    c.as_slice.ensures.value
    (did_read c.requires.fresh c.requires.needs c.in-Ok.ensures.read)
