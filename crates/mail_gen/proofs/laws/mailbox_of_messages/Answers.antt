use Rattle.std.proofs.Common.{length, sym, ap, ◌∙◌}
use Rattle.std.proofs.lemmas.List.{length-map}
use Rattle.std.proofs.lemmas.List.FromFn.{length-map-range_with_len}
use Rattle.mbox_cut.specs.Mbox.{bytes_of, messages_of}
use Rattle.mail_gen.specs.Generator.{mailbox, text}
use Rattle.mail_gen.proofs.Written.{mailbox-messages}
use Rattle.mail_gen.proofs.laws.mailbox_of_messages.Goals as goal

pub returns-clause-mbox : goal.returns-clause-mbox
returns-clause-mbox c = λ count few. (mailbox-messages count few).0

pub returns-clause-texts : goal.returns-clause-texts
returns-clause-texts c = λ count few. (mailbox-messages count few).1

pub returns-clause-messages : goal.returns-clause-messages
returns-clause-messages c = λ count few.
    sym (length-map (messages_of (mailbox count)) (bytes_of (mailbox count)))
    ∙ ap length (mailbox-messages count few).1
    ∙ length-map-range_with_len text 1 count
