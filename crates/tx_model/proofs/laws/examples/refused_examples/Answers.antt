-- What a pass would have to know.
use Rattle.std.proofs.Common.{◌≡◌, ℕ, ◌≤◌, List, [], ◌∷◌, refl, arith}
use Rattle.tx_model.specs.declared.pass.PassState.TheVariants.{Idle, Stamped}
use Rattle.tx_model.specs.Examples.{the_region, owned_region}
use Rattle.tx_model.proofs.ShareNames.{contains_none}
use Rattle.tx_model.proofs.laws.examples.refused_examples.Goals as goal

idle_stamped : Idle ≡ Stamped → ⊥
idle_stamped is = cc

-- commit 1 isn't complete
pub returns-clause-past_front : goal.returns-clause-past_front
returns-clause-past_front c known =
    let complete : 1 ≤ 0 = known.settled idle_stamped 1 (0, omega arith, refl) in omega (arith, complete)

-- one gate would be those of two regions
pub returns-clause-owned_twice : goal.returns-clause-owned_twice
returns-clause-owned_twice c known = known.owns_once 0 1 (omega arith) (omega arith) refl

-- it has no own commit
pub returns-clause-never_sealed : goal.returns-clause-never_sealed
returns-clause-never_sealed c known =
    let owner = known.owners owned_region (0, omega arith, refl) in contains_none owner.since owner.own

pub returns-clause-not_owned : goal.returns-clause-not_owned
returns-clause-not_owned c attempt =
    let (k, o, below, at, is) = attempt.owns the_region (0, omega arith, refl) in omega (arith, below)

-- the last state is the second
pub returns-clause-old_state : goal.returns-clause-old_state
returns-clause-old_state c known =
    let same : 1 ≡ 2 = known.last refl refl in omega (arith, same)

differ : (a b x y : ℕ) → ◌≡◌ {A = List ℕ} (a ∷ b ∷ []) (x ∷ y ∷ []) → b ≡ y
differ a b x y same = cc

-- the state had the words 8 and 9
pub returns-clause-not_fitting : goal.returns-clause-not_fitting
returns-clause-not_fitting c wrote =
    let same = wrote.fits.contents (record owned_region { at_sealing = 8 ∷ 8 ∷ [] }) (0, omega arith, refl) in
    omega (arith, differ 8 9 8 8 same)
