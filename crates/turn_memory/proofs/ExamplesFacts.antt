-- The history of the worked examples, and the gate of their region.
use Rattle.std.proofs.Common.{◌≡◌, ◌≢◌, ℕ, zero, suc, ◌<◌, ◌≤◌, List, [], ◌∷◌, slice_index, Contains, sym, subst, arith, rules}
use Rattle.tx_model.specs.declared.gate.Region.{Region}
use Rattle.tx_model.specs.declared.gate.TheConstants.{GATE_SEALED}
use Rattle.tx_model.specs.declared.view.Attempt.{Attempt}
use Rattle.tx_model.specs.Words.{index_of}
use Rattle.tx_model.specs.WordLaws.{word}
use Rattle.tx_model.specs.Attempt.{starting_at, MayWrite}
use Rattle.tx_model.specs.Rule.{AttemptFollows, FollowsRule, FollowsRules}
use Rattle.tx_model.proofs.lemmas.Rule.{start_follows, write_follows, commit_follows}
use Rattle.tx_model.specs.History.{state_at}
use Rattle.tx_model.specs.Made.{Made, AreWellFormed, IsIn}
use Rattle.turn_memory.specs.declared.table.About.{About}
use Rattle.turn_memory.specs.Lock.{NoneSealed, IsHistory, IsHistoryOf, made_of}
use Rattle.turn_memory.specs.Examples.{opening, writing, two_commits, the_region, AnySense, AnyWords, room_left, made_for}

only_region : (P : Region → Type 0) → P the_region → (region : Region) → Contains (the_region ∷ []) region → P region
only_region P here region (zero, below, is) = subst P is here
only_region P here region (suc k, below, is) = absurd (omega (arith, below))

-- the gate is word 0
pub gate_is : (memory : List ℕ) → slice_index memory 0 ≢ GATE_SEALED → NoneSealed (the_region ∷ []) memory
gate_is memory not = only_region (λ (r : Region). slice_index memory r.gate ≢ GATE_SEALED) not

-- words 1 and 2 are in no region, and are no gate
regions_ok : AreWellFormed opening (the_region ∷ [])
regions_ok = search rules

may_write : (attempt : Attempt) (addr value : ℕ) → 0 < addr → addr < 3 → MayWrite (the_region ∷ []) attempt addr value
may_write attempt addr value above below =
    let outside = only_region (λ (r : Region). IsIn addr r → ⊥) (λ (from, to). omega (arith, from, below)) in
    let no_gate = only_region (λ (r : Region). addr ≡ r.gate → ⊥) (λ is. omega (arith, is, above)) in
    record {
      gate_read = λ region among inside. absurd (outside region among inside);
      writable = λ region among inside. absurd (outside region among inside);
      opens = λ region among is. absurd (no_gate region among is);
    }

pub write_ok : (start addr value : ℕ) → 0 < addr → addr < 3
    → AttemptFollows opening (the_region ∷ []) (record (starting_at start) { writes = word addr value ∷ [] })
unfolding index_of
write_ok start addr value above below =
    write_follows opening (the_region ∷ []) (starting_at start) addr value (omega (arith, below)) (may_write (starting_at start) addr value above below)
    (start_follows opening (the_region ∷ []) start)

pub writing_ok : (addr value : ℕ) → 0 < addr → addr < 3 → FollowsRule opening (the_region ∷ []) (writing (word addr value ∷ []))
writing_ok addr value above below =
    commit_follows opening (the_region ∷ []) (record (starting_at 0) { writes = word addr value ∷ [] }) [] regions_ok (write_ok 0 addr value above below)
    (λ o (k, under, is). absurd (omega (arith, under))) (λ i j before under. absurd (omega (arith, under)))
    (λ region (k, under, is). absurd (omega (arith, under)))

follow_rules : FollowsRules opening (the_region ∷ []) two_commits
follow_rules zero commit there = let same : writing (word 1 4 ∷ []) ≡ commit = cc in
    subst (FollowsRule opening (the_region ∷ [])) same (writing_ok 1 4 (omega arith) (omega arith))
follow_rules (suc zero) commit there = let same : writing (word 1 5 ∷ []) ≡ commit = cc in
    subst (FollowsRule opening (the_region ∷ [])) same (writing_ok 1 5 (omega arith) (omega arith))
follow_rules (suc (suc k)) commit there = absurd cc

unsealed : (k : ℕ) → k ≤ 2 → NoneSealed (the_region ∷ []) (state_at opening two_commits k)
unsealed zero within = gate_is (state_at opening two_commits 0) (λ is. omega (arith, is))
unsealed (suc zero) within = gate_is (state_at opening two_commits 1) (λ is. omega (arith, is))
unsealed (suc (suc zero)) within = gate_is (state_at opening two_commits 2) (λ is. omega (arith, is))
unsealed (suc (suc (suc k))) within = absurd (omega (arith, within))

pub example_history : (about : About AnySense) → made_of about ≡ made_for 2 → IsHistory AnyWords room_left about two_commits
example_history about made = subst (λ (made : Made AnySense). IsHistoryOf AnyWords room_left made two_commits) (sym made) (record {
  legal = search rules;
  writers = search rules;
  rules = follow_rules;
  good_states = search rules;
  lasts = omega arith;
  unsealed = unsealed;
})
