use Rattle.std.proofs.Common.{◌≡◌, ◌++◌, map, take, IsTrue}
use Rattle.std.specs.List.{list_all}
use Rattle.mail_query.specs.InForm.{has_words}
use Rattle.mail_query.specs.Printed.{printed_at, joined}
use Rattle.mail_query.specs.View.{context_of}
use Rattle.mail_query.proofs.printer.+print.Given as goal

abbrev pub invariant-print_members-loop-at : goal.invariant-print_members-loop-at
invariant-print_members-loop-at l =
    (l.text.items ≡ l.initial.text.items ++ joined l.between (map (λ q. printed_at q (context_of l.context)) (take l.at l.members)))
    × IsTrue (list_all has_words (take l.at l.members))
