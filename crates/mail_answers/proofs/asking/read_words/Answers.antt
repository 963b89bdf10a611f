-- The one attempt that counts reads the last state.
use Rattle.std.proofs.Common.{List, ◌∙◌, subst}
use Rattle.tx_model.proofs.lemmas.Passes.{idle_not_stamped}
use Rattle.mail_words.specs.Key.{KeyNumbers}
use Rattle.mail_answers.specs.Lists.{HasKeys}
use Rattle.mail_answers.proofs.AskSteps.{owns_none, asked_before, lists_of_last, refused_before, none_sealed, same_keys}
use Rattle.mail_answers.proofs.asking.read_words.Goals as goal

pub atomically-requires-clause-needs : goal.atomically-requires-clause-needs
atomically-requires-clause-needs g c = λ κs lives.
    owns_none c.pass_knows.ensures c.requires.whole (idle_not_stamped _ c.requires.idle) c.made_well.ensures c.requires.complete

pub unreachable-requires : goal.unreachable-requires
unreachable-requires g c =
    let gave = rw c.in-Err-Refused.field-0-is at c.in-Err-Refused.ensures.not_done in
    none_sealed c.pass_knows.ensures c.requires.whole (idle_not_stamped _ c.requires.idle) c.pass_knows-in-Err-Refused.ensures c.in-Sealed.segment
    (rw c.in-Sealed.is at gave) c.requires.complete

pub returns-in-Ok-atomically-clause-as_before : goal.returns-in-Ok-atomically-clause-as_before
returns-in-Ok-atomically-clause-as_before g c =
    asked_before c.pass_knows.ensures c.requires.whole (idle_not_stamped _ c.requires.idle) c.pass_knows-in-Ok-atomically.ensures
    c.in-Ok-atomically.ensures.done

pub returns-in-Ok-atomically-clause-keys : goal.returns-in-Ok-atomically-clause-keys
returns-in-Ok-atomically-clause-keys g c =
    subst (λ (keys : List KeyNumbers). HasKeys c.atomically.new.body.read.lists keys)
    (same_keys c.atomically.new.body.keys.items c.in-Ok.keys.items c.atomically.ensures.task ∙ c.in-Ok.ensures)
    c.in-Ok-atomically.ensures.done.meaning.all

pub returns-in-Ok-atomically-clause-lists : goal.returns-in-Ok-atomically-clause-lists
returns-in-Ok-atomically-clause-lists g c =
    lists_of_last c.pass_knows.ensures c.requires.whole (idle_not_stamped _ c.requires.idle) c.pass_knows-in-Ok-atomically.ensures
    c.in-Ok-atomically.ensures.done c.requires.complete

pub returns-in-Memory-clause-as_before : goal.returns-in-Memory-clause-as_before
returns-in-Memory-clause-as_before g c =
    refused_before c.pass_knows.ensures c.requires.whole (idle_not_stamped _ c.requires.idle) c.pass_knows-in-Err-Refused.ensures
    (rw c.in-Err-Refused.field-0-is at c.in-Err-Refused.ensures.not_done)
