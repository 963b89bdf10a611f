-- How many calls a sink takes that takes four bytes in each.
use Rattle.std.proofs.Common.{◌+◌, ◌-◌, ◌/◌, ◌≡◌, ◌<◌, ◌≤◌, ℕ, Bool, List, [], ◌∷◌, length, drop, min, refl, arith, length-drop}
use Rattle.std.proofs.lemmas.Grind.{common_steps}
use Rattle.mail_io.specs.Examples.{TakesFour}
use Rattle.mail_io.specs.Writing.{Offers}
use Rattle.mail_io.specs.Writing.Offers.{all_taken, next_piece, some_taken, call_refused}

-- the calls that the pieces need
abbrev pub calls_for : List (List ℕ) → ℕ
calls_for [] = 0
calls_for (piece ∷ pieces) = (length piece + 3) / 4 + calls_for pieces

-- a call of a sink that takes four bytes
one_less : (long count left : ℕ) → 0 < long → count ≡ min 4 long → left ≡ long - count → (left + 3) / 4 + 1 ≤ (long + 3) / 4
one_less long count left some count_is left_is = grind (arith, common_steps)

pub few_calls : (calls after : ℕ) (pieces : List (List ℕ)) (refused : Bool) → Offers TakesFour calls pieces refused after → after ≤ calls + calls_for pieces
few_calls _ _ _ _ (all_taken sink) = omega arith
few_calls _ _ _ _ (next_piece sink end pieces refused offers) =
    let rest = few_calls sink end pieces refused offers in
    omega arith
few_calls _ _ _ _ (some_taken sink next end piece pieces count refused some call offers) =
    let rest = few_calls next end (drop count piece ∷ pieces) refused offers in
    let counted = call.counted in
    let fewer = one_less (length piece) count (length (drop count piece)) some call.taken (length-drop count piece) in
    omega arith
few_calls _ _ _ _ (call_refused sink end piece pieces error some call) =
    let counted = call.counted in
    let one = one_less (length piece) (min 4 (length piece)) (length piece - min 4 (length piece)) some refl refl in
    omega arith
