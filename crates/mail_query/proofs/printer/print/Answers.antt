use Rattle.std.proofs.Common.{sym, ◌∙◌, ap, subst, ◌++◌}
use Rattle.mail_query.specs.Grammar.{ReadsAs}
use Rattle.mail_query.specs.Printed.{printed}
use Rattle.mail_query.proofs.ReadsBack.{reads_back}
use Rattle.mail_query.proofs.printer.print.Goals as goal

pub returns-clause-reads : goal.returns-clause-reads
returns-clause-reads c =
    subst (λ text. ReadsAs text c.args.q.now) (sym (c.in_ok-print_at.ensures.printed ∙ ap (λ start. start ++ printed c.args.q.now) c.new-text.ensures.items))
    (reads_back c.args.q.now c.requires c.in_ok-print_at.ensures.words)
