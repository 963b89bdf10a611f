-- None or several queries are the `All` and the `Any` of them.
use Rattle.std.proofs.Common.{◌≡◌, refl, List, [], ◌∷◌, length}
use Rattle.mail_query.specs.declared.query.Query.{Query}
use Rattle.mail_query.specs.declared.query.Query.TheVariants.{All, Any}
use Rattle.mail_query.specs.Members.{all_of, any_of}

pub all_of_several : (qs : List Query) → ¬ (length qs ≡ 1) → All (record { members = qs }) ≡ all_of qs
all_of_several [] several = refl
all_of_several (q ∷ []) several = absurd (several refl)
all_of_several (p ∷ q ∷ qs) several = refl

pub any_of_several : (qs : List Query) → ¬ (length qs ≡ 1) → Any (record { members = qs }) ≡ any_of qs
any_of_several [] several = refl
any_of_several (q ∷ []) several = absurd (several refl)
any_of_several (p ∷ q ∷ qs) several = refl
