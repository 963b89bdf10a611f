-- What the query finds in the rows.
use Rattle.std.proofs.Common.{length, List, sym, ap, ◌∙◌, subst, arith}
use Rattle.mail_query.specs.Answers.{numbers_where}
use Rattle.mail_words.specs.Key.{KeyNumbers}
use Rattle.tx_heap.specs.Layout.{mail_layout}
use Rattle.tx_heap.specs.Index.{rows_of}
use Rattle.mail_answers.specs.Complete.{last_index}
use Rattle.mail_answers.specs.Lists.{HasLists}
use Rattle.mail_answers.specs.declared.lists.ReadLists.{ReadLists}
use Rattle.mail_answers.proofs.Rows.{hits_of_rows}
use Rattle.mail_answers.proofs.asking.hits_of.Goals as goal

pub returns-in-Ok-evaluate-clause-hits : goal.returns-in-Ok-evaluate-clause-hits
returns-in-Ok-evaluate-clause-hits g c =
    let memory = g.M.TxMemory in
    let law = c.keys_are_totally_ordered.ensures in
    let made = memory.made c.args.mem.now in
    let history = (memory.view c.args.pass.now).history in
    let rows = rows_of mail_layout (last_index made history) in
    let query = c.args.query.now in
    let count = c.messages-count.ensures ∙ ap (λ (lists : List (List KeyNumbers)). length lists) (c.lists.ensures ∙ c.sense.ensures) in
    let fits = subst (λ (read : ReadLists). HasLists read.lists rows) (sym c.in-Ok-evaluate.ensures.kept) c.in-Ok.ensures.lists in
    (c.in-Ok-evaluate.ensures.answer rows fits).1
    ∙ ap (numbers_where query rows) count
    ∙ hits_of_rows (record { total = law.total; ties = law.ties; same = law.same }) {heap = last_index made history}
    (c.pass_knows.ensures.good_states.states (length history) (omega arith)).index c.requires.complete query
