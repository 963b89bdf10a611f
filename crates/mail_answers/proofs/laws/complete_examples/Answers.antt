-- Each gate by itself.
use Rattle.std.proofs.Common.{◌≡◌, ◌-◌, ◌<◌, ◌≤◌, ℕ, zero, suc, get_or, List, [], ◌∷◌, refl, arith}
use Rattle.mail_answers.proofs.laws.complete_examples.Goals as goal

abbrev gates : List ℕ
gates = 1 ∷ 1 ∷ 1 ∷ 1 ∷ 1 ∷ 1 ∷ 1 ∷ 1 ∷ []

abbrev needs : List ℕ
needs = 0 ∷ []

-- the eight gates are open
gate_open : (segment : ℕ) → segment < 8 → get_or gates segment 0 ≡ 1
gate_open zero below = refl
gate_open (suc zero) below = refl
gate_open (suc (suc zero)) below = refl
gate_open (suc (suc (suc zero))) below = refl
gate_open (suc (suc (suc (suc zero)))) below = refl
gate_open (suc (suc (suc (suc (suc zero))))) below = refl
gate_open (suc (suc (suc (suc (suc (suc zero)))))) below = refl
gate_open (suc (suc (suc (suc (suc (suc (suc zero))))))) below = refl
gate_open (suc (suc (suc (suc (suc (suc (suc (suc k)))))))) below = absurd (omega (arith, below))

no_need : (message : ℕ) → 1 ≤ message → message ≤ 1 → get_or needs (message - 1) 0 ≡ 0
no_need zero from to = absurd (omega (arith, from))
no_need (suc zero) from to = refl
no_need (suc (suc k)) from to = absurd (omega (arith, to))

pub returns-clause-complete : goal.returns-clause-complete
returns-clause-complete c = record {
  needs = no_need;
  none_sealed = λ segment below is. omega (arith, is, gate_open segment below);
  none_packed = λ segment below is. omega (arith, is, gate_open segment below);
}

pub returns-clause-needs : goal.returns-clause-needs
returns-clause-needs c complete = let need = complete.needs 1 (omega arith) (omega arith) in omega (arith, need)

pub returns-clause-is_sealed : goal.returns-clause-is_sealed
returns-clause-is_sealed c complete = complete.none_sealed 0 (omega arith) refl
