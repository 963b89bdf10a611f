use Rattle.std.proofs.Common.{◌≡◌, refl}
use Rattle.std.specs.declared.cmp.Ordering.TheVariants.{Less, Equal, Greater}
use Rattle.std.specs.List.Sorted.{IsStrictlySortedBy}
use Rattle.mail_query.proofs.laws.answers.table_of_two_lists.Goals as goal

pub returns-clause-in_order : goal.returns-clause-in_order
unfolding IsStrictlySortedBy
returns-clause-in_order c = ((refl, (refl, tt)), ((refl, tt), (tt, tt)))

pub returns-clause-by_message : goal.returns-clause-by_message
unfolding IsStrictlySortedBy
returns-clause-by_message c in_order =
    let less : Greater ≡ Less = in_order.0.0 in
    cc

pub returns-clause-by_key : goal.returns-clause-by_key
unfolding IsStrictlySortedBy
returns-clause-by_key c in_order =
    let less : Greater ≡ Less = in_order.0.0 in
    cc

pub returns-clause-twice : goal.returns-clause-twice
unfolding IsStrictlySortedBy
returns-clause-twice c in_order =
    let less : Equal ≡ Less = in_order.0.0 in
    cc
