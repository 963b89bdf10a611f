-- The numbers sorted, and then each once.
use Rattle.std.proofs.Common.{arith}
use Rattle.std.proofs.lemmas.List.Filters.{dedup_is}
use Rattle.std.proofs.lemmas.List.Kept.{Contains-dedup_nat, Contains-from_dedup}
use Rattle.std.proofs.lemmas.List.Sorted.{Contains-permutation, IsPermutation-sym}
use Rattle.std.proofs.lemmas.Map.Keys.{IsStrictlyIncreasing-dedup}
use Rattle.mail_answers.proofs.Members.{rises_from}
use Rattle.mail_answers.proofs.sorting.put_in_order.Goals as goal

pub returns-clause-rises : goal.returns-clause-rises
returns-clause-rises c =
    let is = dedup_is _ _ _ c.dedup.ensures.filtered in
    rises_from 0 _ (λ some. omega arith) (rw is (IsStrictlyIncreasing-dedup _ c.sort_unstable.ensures.sorted))

pub returns-clause-same : goal.returns-clause-same
returns-clause-same c number =
    let is = dedup_is _ _ _ c.dedup.ensures.filtered in
    let moved = c.sort_unstable.ensures.permutation in (
      λ among. Contains-permutation _ _ number (IsPermutation-sym _ _ moved) (Contains-from_dedup _ _ number (rw is at among)),
      λ among. rw is (Contains-dedup_nat _ number (Contains-permutation _ _ number moved among)),
    )
