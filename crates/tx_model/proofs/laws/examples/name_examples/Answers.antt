use Rattle.std.proofs.Common.{true, false, [], ◌∷◌, refl, arith, rules}
use Rattle.std.proofs.lemmas.Bool.{false≢true}
use Rattle.tx_model.proofs.ShareNames.{ending_more, halves_apart, apart_half, apart_other_way}
use Rattle.tx_model.proofs.laws.examples.name_examples.Goals as goal

pub returns-clause-not_joined : goal.returns-clause-not_joined
returns-clause-not_joined c joined =
    joined false [] (0, omega arith, refl) (1, omega arith, refl)

pub returns-clause-ending : goal.returns-clause-ending
returns-clause-ending c = ending_more true (false ∷ [])

-- both halves of the first half are apart from the second half, as the first half is
pub returns-clause-apart : goal.returns-clause-apart
returns-clause-apart c =
    apart_other_way (true ∷ false ∷ []) (true ∷ []) (apart_half true (false ∷ []) (true ∷ []) (halves_apart false true [] false≢true))

pub returns-clause-lost : goal.returns-clause-lost
returns-clause-lost c = (search rules, λ within. (within.0 (false ∷ []) (0, omega arith, refl)).0 (ending_more false []), refl)
