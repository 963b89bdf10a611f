use Rattle.std.proofs.Common.{◌++◌, take, ◌∙◌, ap}
use Rattle.mail_words.specs.Key.{word_of}
use Rattle.mail_query.proofs.Printed.{word_in}
use Rattle.mail_query.proofs.printer.print_word.Goals as goal

pub returns-in-Ok-clause-printed : goal.returns-in-Ok-clause-printed
returns-in-Ok-clause-printed c =
    c.in-Ok.ensures.items
    ∙ ap (λ bytes. c.args.text.now.items ++ take c.bytes_of-word.result.len bytes) c.bytes_of-word.ensures.bytes
    ∙ ap (λ word. c.args.text.now.items ++ word)
    (word_in (word_of c.args.key.now) c.bytes_of-word.result.len c.bytes_of-word.ensures.len c.bytes_of-word.ensures.shorter)
