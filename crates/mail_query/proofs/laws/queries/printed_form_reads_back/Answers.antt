use Rattle.mail_query.specs.Printed.{printed}
use Rattle.mail_query.proofs.Complete.{one_reading}
use Rattle.mail_query.proofs.InForm.{reads_good}
use Rattle.mail_query.proofs.Limits.{unrefused, within_limits}
use Rattle.mail_query.proofs.Depth.{printed_within}
use Rattle.mail_query.proofs.ReadsBack.{reads_back}
use Rattle.mail_query.proofs.laws.queries.printed_form_reads_back.Goals as goal

pub returns-clause-reads : goal.returns-clause-reads
returns-clause-reads c = reads_back

pub returns-clause-same : goal.returns-clause-same
returns-clause-same c = λ text p q reads again.
    let good = reads_good text p c.key_and_word_give_each_other.ensures.key reads in
    one_reading (printed p) q p again (reads_back p good.formed good.worded)

pub returns-clause-not_refused : goal.returns-clause-not_refused
returns-clause-not_refused c = λ text q none reads short.
    let keys = c.key_and_word_give_each_other.ensures.key in
    let good = reads_good text q keys reads in
    unrefused (printed q) q (reads_back q good.formed good.worded) (printed_within text q keys reads (within_limits text none) short)
