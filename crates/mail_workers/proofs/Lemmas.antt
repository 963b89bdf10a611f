-- Offered to the crates above: a life of the memory that is enough for an index of word lists.
use Rattle.std.proofs.Common.{ℕ, ◌+◌, ◌*◌, ◌<◌, List, arith}
use Rattle.mail_words.specs.Key.{KeyNumbers}
use Rattle.mail_words.specs.Lists.{postings_in}
use Rattle.tx_heap.specs.Layout.{sizes_of, segments_for}
use Rattle.tx_heap.specs.Mail.{IsGoodMail, mail_heap, mail_budget}
use Rattle.tx_heap.specs.BudgetLaw.{budget_bound}
use Rattle.tx_heap.proofs.lemmas.HeapWords.{lanes_many, segments_many}

pub life_enough : (lists : List (List KeyNumbers)) (words : List ℕ) → IsGoodMail lists words words
    → mail_budget lists words < postings_in lists + 2 * segments_for (postings_in lists) + 1
life_enough lists words good =
    let bound = budget_bound lists (mail_heap lists words) good.index (lanes_many (sizes_of lists) words good.size) in
    omega (arith, bound, segments_many (sizes_of lists) words)
