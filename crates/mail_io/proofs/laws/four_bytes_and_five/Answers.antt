use Rattle.std.proofs.Common.{◌<◌, [], ◌∷◌, refl, arith, lit<, lit≤}
use Rattle.mail_io.proofs.Taken.{TakesAll-told_large}
use Rattle.mail_io.proofs.laws.four_bytes_and_five.Goals as goal

pub returns-clause-five : goal.returns-clause-five
returns-clause-five c = record { taken = 102 ∷ 105 ∷ 118 ∷ 101 ∷ 115 ∷ []; moved = refl; at_most = lit≤ tt; exactly_large = (λ _. lit< tt, λ _. refl); ok = tt }

pub returns-clause-not_four : goal.returns-clause-not_four
returns-clause-not_four c after takes =
    let more : 4 < 4 = TakesAll-told_large _ after 4 takes in
    absurd (omega (arith, more))
