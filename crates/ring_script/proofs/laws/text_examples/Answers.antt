-- Numbers by their digits.
use Rattle.std.proofs.Common.{◌≡◌, [], ◌∷◌, ◌++◌, ◌∙◌, ap, arith}
use Rattle.std.specs.Prelude.{decimal}
use Rattle.std.proofs.lemmas.Fmt.{decimal_digit, decimal_step}
use Rattle.ring_script.proofs.laws.text_examples.Goals as goal

pub returns : goal.returns
returns c =
    let zero : decimal 0 ≡ 48 ∷ [] = decimal_digit 0 (omega arith) in
    let one : decimal 1 ≡ 49 ∷ [] = decimal_digit 1 (omega arith) in
    let two : decimal 2 ≡ 50 ∷ [] = decimal_digit 2 (omega arith) in
    let three : decimal 3 ≡ 51 ∷ [] = decimal_digit 3 (omega arith) in
    let four : decimal 4 ≡ 52 ∷ [] = decimal_digit 4 (omega arith) in
    let five : decimal 5 ≡ 53 ∷ [] = decimal_digit 5 (omega arith) in
    let six : decimal 6 ≡ 54 ∷ [] = decimal_digit 6 (omega arith) in
    let seven : decimal 7 ≡ 55 ∷ [] = decimal_digit 7 (omega arith) in
    let eight : decimal 8 ≡ 56 ∷ [] = decimal_digit 8 (omega arith) in
    let sixty_four : decimal 64 ≡ 54 ∷ 52 ∷ [] = decimal_step 64 (omega arith) (omega arith) ∙ ap (λ ds. ds ++ 52 ∷ []) six in
    record {
      trace = simp (zero, one, two, five, six);
      script = simp (zero, one, three, four, seven, eight, sixty_four);
      runs = (simp (one, three), simp (one, three));
      no_step = λ may. omega (arith, may.0);
    }
