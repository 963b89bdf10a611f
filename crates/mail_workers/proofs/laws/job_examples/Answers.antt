-- The queue is filled with three numbers, its pass is split, and each half draws.
use Rattle.std.proofs.Common.{◌≡◌, [], ◌∷◌, refl, arith}
use Rattle.mail_workers.specs.declared.rule.JobView.{JobView}
use Rattle.mail_workers.specs.Jobs.{IsJobs, first_view, left_view, right_view, with_pushed}
use Rattle.mail_workers.specs.Examples.{one, other}
use Rattle.mail_workers.proofs.Draws.{drawn_kept}
use Rattle.mail_workers.proofs.Fills.{filled}
use Rattle.mail_workers.proofs.Seats.{begins, named_whole}
use Rattle.mail_workers.proofs.Splits.{split_keeps}
use Rattle.mail_workers.proofs.laws.job_examples.Goals as goal

abbrev first : JobView
first = with_pushed first_view

abbrev second : JobView
second = with_pushed first

abbrev third : JobView
third = with_pushed second

all_in : IsJobs (1 ∷ 2 ∷ 3 ∷ []) (third ∷ [])
all_in =
    filled 0 second 3 refl refl (1 ∷ 2 ∷ []) (second ∷ [])
    (filled 0 first 2 refl refl (1 ∷ []) (first ∷ []) (filled 0 first_view 1 refl refl [] (first_view ∷ []) begins refl) refl) refl

pub returns-clause-midway : goal.returns-clause-midway
returns-clause-midway c =
    let l = c.split_shares.ensures in
    let named = named_whole third refl in
    let left = left_view third in
    let right = right_view third in
    let halves = l.not_empty third.share named in
    let halved = split_keeps l.apart l.others l.normal l.not_empty 0 third named (1 ∷ 2 ∷ 3 ∷ []) (third ∷ []) all_in refl in
    let drawn = drawn_kept 0 left halves.0 1 (2 ∷ 3 ∷ []) (left ∷ right ∷ []) halved refl in
    drawn_kept 1 right halves.1 2 (3 ∷ []) (one ∷ right ∷ []) drawn refl

pub returns-clause-drawn_twice : goal.returns-clause-drawn_twice
returns-clause-drawn_twice c = λ jobs.
    let twice : JobView = record other { drawn = 1 ∷ [] } in
    let same : 0 ≡ 1 = jobs.once 0 1 one twice 1 refl refl (0, omega arith, refl) (0, omega arith, refl) in
    absurd (omega (arith, same))
