-- What the worked examples use again and again.
use Rattle.std.proofs.Common.{◌≡◌, ℕ, Some, [], ◌∷◌, Contains, inl, inr}
use Rattle.tx_model.proofs.ShareNames.{contains_none, contains_cases}

pub same_number : (m n : ℕ) → Some m ≡ Some n → m ≡ n
same_number m n e = cc

pub only_of : {X : Type 0} (x y : X) → Contains (x ∷ []) y → x ≡ y
only_of x y has = elim (contains_cases x [] y has) [ inl e ↦ e | inr among ↦ absurd (contains_none y among) ]
