use Rattle.std.proofs.Common.{[]}
use Rattle.mail_query.proofs.KeyOrder.{key_order}
use Rattle.mail_query.proofs.InOrder.{lists_in_order, same_table}
use Rattle.mail_query.proofs.Posted.{all_rise}
use Rattle.mail_query.proofs.laws.answers.tables_in_order.Goals as goal

pub returns-clause-lists : goal.returns-clause-lists
returns-clause-lists c = λ lists rise. lists_in_order 1 lists (all_rise lists (λ i within. rise i [] within))

pub returns-clause-no_other : goal.returns-clause-no_other
returns-clause-no_other c =
    let law = c.keys_are_totally_ordered.ensures in
    same_table (key_order law.total law.ties law.same)
