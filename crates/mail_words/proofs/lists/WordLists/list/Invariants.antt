-- The list that is looked for is that of the message so many further, in the chunks that are left.
use Rattle.std.proofs.Common.{◌≡◌, ◌-◌, ◌≤◌, [], drop, get_or}
use Rattle.mail_words.specs.Lists.{lists_in}
use Rattle.mail_words.proofs.lists.WordLists.list.Given as goal

abbrev pub invariant-loop-chunk : goal.invariant-loop-chunk
invariant-loop-chunk l = record {
  from_one : 1 ≤ l.left;
  list : get_or (lists_in (drop l.chunk-index l.chunk-items)) (l.left - 1) [] ≡ get_or l.self (l.message - 1) [];
}
