-- A memory that fits the attempt has 5 in word 0, and one that doesn't may have 0.
use Rattle.std.proofs.Common.{◌≡◌, ℕ, ◌<◌, List, [], ◌∷◌, Some, refl, arith}
use Rattle.tx_model.specs.Words.{no_word}
use Rattle.tx_model.specs.History.{after_commit}
use Rattle.tx_model.specs.Attempt.{Fits}
use Rattle.tx_model.specs.WordLaws.{word}
use Rattle.tx_model.specs.Examples.{having, HasThree, left_over, counting}
use Rattle.tx_model.proofs.ShareNames.{contains_none}
use Rattle.tx_model.proofs.ExamplesFacts.{same_number}
use Rattle.tx_model.proofs.laws.examples.sense_examples.Goals as goal

counts_down : (memory : List ℕ) → HasThree memory → Fits memory (having (word 0 5 ∷ []) (word 0 4 ∷ [])) []
    → HasThree (after_commit memory counting) × (left_over (after_commit memory counting) < left_over memory)
counts_down [] three fits = absurd (omega (arith, three))
counts_down (value ∷ memory) three fits =
    let five : Some value ≡ Some 5 = fits.reads 0 no_word (omega arith) in
    (three, omega (arith, same_number value 5 five))

pub returns-clause-may : goal.returns-clause-may
returns-clause-may c = counts_down

pub returns-clause-may_not : goal.returns-clause-may_not
returns-clause-may_not c may =
    let down = may (0 ∷ 0 ∷ 0 ∷ []) refl
    (record { reads = λ k d below. absurd (let past : k < 0 = below in omega (arith, past)); contents = λ o among. absurd (contains_none o among) }) in
    let low : 4 < 0 = down.1 in omega (arith, low)
