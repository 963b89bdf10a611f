use Rattle.std.proofs.Common.{◌≡◌, ℕ, ◌≤◌, Some, zero, suc, [], ◌∷◌, Contains, refl, sym, subst, arith}
use Rattle.ring_sig.specs.Signature.{place_of, places_of}
use Rattle.tx_model.specs.declared.history.Commit.{Commit}
use Rattle.tx_model.specs.Words.{no_word, addresses}
use Rattle.tx_model.specs.Opacity.{ReadFromState}
use Rattle.tx_model.specs.WordLaws.{word}
use Rattle.tx_model.specs.Examples.{open_memory, two_commits, writing}
use Rattle.tx_model.proofs.ExamplesFacts.{only_of, same_number}
use Rattle.tx_model.proofs.laws.examples.opacity_examples.Goals as goal

-- word 0 is 2 only between the commits, and word 2 is 8 there
no_state : (k : ℕ) → ¬ ReadFromState open_memory two_commits (word 0 2 ∷ word 2 5 ∷ []) k
no_state zero read = omega (arith, same_number 1 2 (read.agree 0 no_word (omega arith)))
no_state (suc zero) read = omega (arith, same_number 8 5 (read.agree 1 no_word (omega arith)))
no_state (suc (suc zero)) read = omega (arith, same_number 3 2 (read.agree 0 no_word (omega arith)))
no_state (suc (suc (suc k))) read =
    let past : suc (suc (suc k)) ≤ 2 = read.happened in omega (arith, past)

same_commit : (a b : Commit) → Some a ≡ Some b → a ≡ b
same_commit a b e = cc

pub returns-clause-no_state : goal.returns-clause-no_state
returns-clause-no_state c = no_state

-- both have place 39
pub returns-clause-conflict : goal.returns-clause-conflict
unfolding place_of
returns-clause-conflict c = record {
  later = omega arith;
  commit = writing 56;
  there = refl;
  shared = (39, (0, omega arith, refl), (0, omega arith, refl));
}

-- 56 has place 39, and 2 has place 15
pub returns-clause-no_conflict : goal.returns-clause-no_conflict
unfolding place_of
returns-clause-no_conflict c shows =
    let e : writing 56 ≡ shows.commit = same_commit (writing 56) shows.commit shows.there in
    let wrote = subst (λ (commit : Commit). Contains (places_of (addresses commit.writes) 64) shows.shared.0) (sym e) shows.shared.1 in
    let one : 39 ≡ shows.shared.0 = only_of 39 shows.shared.0 wrote in
    let other : 15 ≡ shows.shared.0 = only_of 15 shows.shared.0 shows.shared.2 in
    omega (arith, one, other)
