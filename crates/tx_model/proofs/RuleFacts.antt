-- The worked examples of attempts and commits that follow the region rule, move by move.
use Rattle.std.proofs.Common.{◌≡◌, ℕ, ◌<◌, zero, suc, Some, [], ◌∷◌, slice_get, refl, subst, arith, rules, Contains}
use Rattle.tx_model.specs.declared.gate.Region.{Region}
use Rattle.tx_model.specs.declared.history.Commit.{Commit}
use Rattle.tx_model.specs.declared.view.Attempt.{Attempt}
use Rattle.tx_model.specs.declared.view.Owned.{Owned}
use Rattle.tx_model.specs.Words.{index_of, HasAddress}
use Rattle.tx_model.specs.WordLaws.{word}
use Rattle.tx_model.specs.Made.{AreWellFormed, IsIn}
use Rattle.tx_model.specs.Attempt.{starting_at, gate_value, MayRead, MayWrite}
use Rattle.tx_model.specs.Pass.{IsOwnable, OwnsRegion}
use Rattle.tx_model.specs.Rule.{AttemptFollows, FollowsRule, MaySeal, with_seal, MayPublish}
use Rattle.tx_model.specs.RuleLaws.{IsRuled}
use Rattle.tx_model.specs.RuleExamples.{opening_region}
use Rattle.tx_model.specs.Examples.{the_region, the_regions, open_memory, sealing, publishing, two_commits, having, owned_region, attempt_to_publish}
use Rattle.tx_model.proofs.ShareNames.{contains_none}
use Rattle.tx_model.proofs.ExamplesFacts.{only_of}
use Rattle.tx_model.proofs.lemmas.Rule.{start_follows, read_follows, write_follows, seal_follows, publish_follows, commit_follows}

-- ---- the one region
pub regions_ok : AreWellFormed open_memory the_regions
regions_ok = search rules

pub of_the_region : (P : Region → Type 0) → P the_region → (region : Region) → Contains the_regions region → P region
of_the_region P here region among = subst P (only_of the_region region among) here

pub not_inside : (addr : ℕ) → addr < 2 → (region : Region) → Contains the_regions region → IsIn addr region → ⊥
not_inside addr low region among inside =
    of_the_region (λ (r : Region). IsIn addr r → ⊥) (λ (from, below). omega (arith, from, low)) region among inside

-- words 0 and 1 are in no region
pub may_read : (attempt : Attempt) (addr : ℕ) → addr < 2 → MayRead the_regions attempt addr
may_read attempt addr low = record {
  gate_read = λ region among inside. absurd (not_inside addr low region among inside);
  readable = λ region among inside. absurd (not_inside addr low region among inside);
  not_published = λ region among inside. absurd (not_inside addr low region among inside);
}

-- ---- the gate is opened, and then word 2 is written
pub may_open : MayWrite the_regions (having (word 0 0 ∷ []) []) 0 1
unfolding index_of
may_open = record {
  gate_read = λ region among inside. absurd (not_inside 0 (omega arith) region among inside);
  writable = λ region among inside. absurd (not_inside 0 (omega arith) region among inside);
  opens = λ region among is. (refl, refl);
}

pub not_gate : (region : Region) → Contains the_regions region → 2 ≡ region.gate → ⊥
not_gate region among is = of_the_region (λ (r : Region). 2 ≡ r.gate → ⊥) (λ e. omega (arith, e)) region among is

pub may_write_opened : MayWrite the_regions (having (word 0 0 ∷ []) (word 0 1 ∷ [])) 2 5
unfolding index_of
may_write_opened = record {
  gate_read = λ region among inside. of_the_region (λ (r : Region). HasAddress (word 0 0 ∷ []) r.gate) (0, word 0 0, omega arith, refl, refl) region among;
  writable = λ region among inside. of_the_region (λ (r : Region). gate_value (having (word 0 0 ∷ []) (word 0 1 ∷ [])) r.gate ≡ Some 1) refl region among;
  opens = λ region among is. absurd (not_gate region among is);
}

pub opening_follows : AttemptFollows open_memory the_regions opening_region
unfolding index_of
opening_follows =
    write_follows open_memory the_regions (having (word 0 0 ∷ []) (word 0 1 ∷ [])) 2 5 (omega arith) may_write_opened
    (write_follows open_memory the_regions (having (word 0 0 ∷ []) []) 0 1 (omega arith) may_open
    (read_follows open_memory the_regions (starting_at 0) 0 0 (may_read (starting_at 0) 0 (omega arith)) (start_follows open_memory the_regions 0)))

-- ---- the region is sealed
pub may_seal : MaySeal the_regions (having (word 0 1 ∷ []) []) the_region
unfolding index_of
may_seal = record { of_memory = (0, omega arith, refl); gate_read = (0, word 0 1, omega arith, refl, refl); is_open = refl }

no_owned : (o : Owned) → Contains [] o → IsOwnable the_regions o
no_owned o among = absurd (contains_none o among)

pub sealing_follows : FollowsRule open_memory the_regions sealing
unfolding index_of
sealing_follows =
    commit_follows open_memory the_regions (with_seal (having (word 0 1 ∷ []) []) the_region) [] regions_ok
    (seal_follows open_memory the_regions (having (word 0 1 ∷ []) []) the_region regions_ok may_seal
    (read_follows open_memory the_regions (starting_at 0) 0 1 (may_read (starting_at 0) 0 (omega arith)) (start_follows open_memory the_regions 0)))
    no_owned (λ i j before below. absurd (omega (arith, below))) (λ region among. absurd (contains_none region among))

-- ---- the region is published
abbrev reads_two : Attempt
reads_two = record (having (word 0 2 ∷ word 1 7 ∷ []) []) { start = 1 }

none_twice : Contains [] the_region → ⊥
none_twice among = contains_none the_region among

pub may_publish : MayPublish the_regions (having (word 0 2 ∷ []) []) the_region
unfolding index_of
may_publish = record { of_memory = (0, omega arith, refl); gate_read = refl; once = none_twice }

may_publish_later : MayPublish the_regions reads_two the_region
unfolding index_of
may_publish_later = record { of_memory = (0, omega arith, refl); gate_read = refl; once = none_twice }

pub publishing_attempt_follows : AttemptFollows open_memory the_regions attempt_to_publish
unfolding index_of
publishing_attempt_follows =
    publish_follows open_memory the_regions reads_two the_region regions_ok may_publish_later
    (read_follows open_memory the_regions (record (having (word 0 2 ∷ []) []) { start = 1 }) 1 7
    (may_read (record (having (word 0 2 ∷ []) []) { start = 1 }) 1 (omega arith))
    (read_follows open_memory the_regions (starting_at 1) 0 2 (may_read (starting_at 1) 0 (omega arith)) (start_follows open_memory the_regions 1)))

pub owned_ok : (o : Owned) → Contains (owned_region ∷ []) o → IsOwnable the_regions o
owned_ok o among =
    subst (IsOwnable the_regions) (only_of owned_region o among) (record { region = (0, omega arith, refl); sealed_words = refl; words = refl })

pub owns_published : (region : Region) → Contains the_regions region → OwnsRegion (owned_region ∷ []) region
owns_published = of_the_region (OwnsRegion (owned_region ∷ [])) (0, owned_region, omega arith, refl, refl)

pub publishing_follows : FollowsRule open_memory the_regions publishing
publishing_follows =
    commit_follows open_memory the_regions attempt_to_publish (owned_region ∷ []) regions_ok publishing_attempt_follows owned_ok
    (λ i j before below. absurd (omega (arith, before, below))) owns_published

-- ---- both, one after the other
rules_of : (k : ℕ) (commit : Commit) → slice_get two_commits k ≡ Some commit → FollowsRule open_memory the_regions commit
rules_of zero commit there = let same : sealing ≡ commit = cc in subst (FollowsRule open_memory the_regions) same sealing_follows
rules_of (suc zero) commit there =
    let same : publishing ≡ commit = cc in subst (FollowsRule open_memory the_regions) same publishing_follows
rules_of (suc (suc k)) commit there = absurd cc

pub two_ruled : IsRuled open_memory the_regions two_commits
two_ruled = record { well_formed = regions_ok; legal = search rules; rules = rules_of }
