-- The worked examples of passes: one that made both commits, one that owns the region, and one that publishes it.
use Rattle.std.proofs.Common.{◌≡◌, ◌↔◌, ℕ, ◌+◌, ◌<◌, ◌≤◌, zero, suc, [], ◌∷◌, refl, sym, subst, arith, rules, inl, inr, Contains}
use Rattle.tx_model.specs.declared.gate.Region.{Region}
use Rattle.tx_model.specs.declared.pass.PassState.TheVariants.{Idle, Active, Stamped}
use Rattle.tx_model.specs.declared.view.Owned.{Owned}
use Rattle.tx_model.specs.Memory.{words_in}
use Rattle.tx_model.specs.History.{state_at, IsGoodHistory}
use Rattle.tx_model.specs.Attempt.{Fits}
use Rattle.tx_model.specs.Rule.{gate_at, FollowsRules}
use Rattle.tx_model.specs.Pass.{OwnsRegion, OwnsOnce, HasPublished, IsOwner, OwnsSealed}
use Rattle.tx_model.specs.Examples.{the_region, the_regions, open_memory, sealing, two_commits, owned_region, attempt_to_publish, the_pass}
use Rattle.tx_model.specs.CallExamples.{IsAsLong, gate_left, the_owner}
use Rattle.tx_model.specs.PassExamples.{PassExample, OwnerExample, StampedExample, the_publisher}
use Rattle.tx_model.proofs.ShareNames.{contains_none, contains_cases}
use Rattle.tx_model.proofs.ExamplesFacts.{only_of}
use Rattle.tx_model.proofs.lemmas.States.{state_length}
use Rattle.tx_model.proofs.RuleFacts.{of_the_region, two_ruled, publishing_attempt_follows, owned_ok, owns_published}

-- ---- the histories
one_rule : FollowsRules open_memory the_regions (sealing ∷ [])
one_rule zero commit there = two_ruled.rules 0 commit there
one_rule (suc k) commit there = absurd cc

two_fall : (k : ℕ) → k < 2 → gate_left tt (state_at open_memory two_commits (k + 1)) < gate_left tt (state_at open_memory two_commits k)
two_fall zero below = omega arith
two_fall (suc zero) below = omega arith
two_fall (suc (suc k)) below = absurd (omega (arith, below))

one_falls : (k : ℕ) → k < 1 → gate_left tt (state_at open_memory (sealing ∷ []) (k + 1)) < gate_left tt (state_at open_memory (sealing ∷ []) k)
one_falls zero below = omega arith
one_falls (suc k) below = absurd (omega (arith, below))

two_good : IsGoodHistory (IsAsLong tt open_memory) (gate_left tt) open_memory two_commits
two_good = record { states = λ k within. state_length open_memory two_commits k; falls = two_fall }

one_good : IsGoodHistory (IsAsLong tt open_memory) (gate_left tt) open_memory (sealing ∷ [])
one_good = record { states = λ k within. state_length open_memory (sealing ∷ []) k; falls = one_falls }

-- ---- own commits
only_first : (own : ℕ) → Contains (1 ∷ []) own → own ≤ 1
only_first own has = let same = only_of 1 own has in omega (arith, same)

first_two : (own : ℕ) → Contains (1 ∷ 2 ∷ []) own → own ≤ 2
first_two own has =
    elim (contains_cases 1 (2 ∷ []) own has) [
      | inl same ↦ omega (arith, same)
      | inr rest ↦ let same = only_of 2 own rest in omega (arith, same)
    ]

-- ---- the owner
owned_once : OwnsOnce (owned_region ∷ [])
owned_once i j before below = absurd (omega (arith, before, below))

of_the_owned : (P : Owned → Type 0) → P owned_region → (o : Owned) → Contains (owned_region ∷ []) o → P o
of_the_owned P here o among = subst P (only_of owned_region o among) here

-- in state 1 the region is as it was sealed
sealed_there : Fits (state_at open_memory (sealing ∷ []) 1) attempt_to_publish (owned_region ∷ [])
sealed_there =
    record {
      reads = search rules;
      contents = of_the_owned (λ (o : Owned). words_in (state_at open_memory (sealing ∷ []) 1) o.region ≡ o.at_sealing) refl;
    }

owner_one : IsOwner open_memory the_owner attempt_to_publish owned_region
owner_one =
    record {
      since = 1;
      commit = sealing;
      there = refl;
      sealed = (0, omega arith, refl);
      own = (0, omega arith, refl);
      complete = omega arith;
      began = λ attempting. omega arith;
      is_sealed = λ k from within not. let last : 1 ≡ k = omega (arith, from, within) in
          subst (λ n. gate_at open_memory (sealing ∷ []) n the_region ≡ 2) last refl;
      as_sealed = λ k from within not. let last : 1 ≡ k = omega (arith, from, within) in
          subst (λ n. words_in (state_at open_memory (sealing ∷ []) n) the_region ≡ 8 ∷ 9 ∷ []) last refl;
    }

idle_active : Idle ≡ Active → ⊥
idle_active is = cc

idle_stamped : Idle ≡ Stamped → ⊥
idle_stamped is = cc

active_stamped : Active ≡ Stamped → ⊥
active_stamped is = cc

owns_sealed : OwnsSealed open_memory the_regions the_owner
owns_sealed =
    of_the_region (λ (r : Region). (gate_at open_memory (sealing ∷ []) 1 r ≡ 2) ↔ OwnsRegion (owned_region ∷ []) r)
    ((λ is. owns_published the_region (0, omega arith, refl)), λ owns. refl)

pub the_owner_known : OwnerExample
the_owner_known =
    record {
      legal = search rules;
      writers = search rules;
      rules = one_rule;
      good_states = one_good;
      lasts = search rules;
      front = search rules;
      mine = search rules;
      settled = λ not. only_first;
      stamped = λ is. absurd (active_stamped is);
      named = search rules;
      joined = search rules;
      names_apart = ((λ other has. absurd (contains_none other has)), tt);
      owns = owned_ok;
      owns_once = owned_once;
      owners = of_the_owned (IsOwner open_memory the_owner attempt_to_publish) owner_one;
      idle = search rules;
      attempting = λ not. record {
        started = omega arith;
        from_one = sealed_there;
        follows = publishing_attempt_follows;
        owns = owns_published;
        room = omega arith;
      };
      whole = search rules;
      sealed = λ whole not. owns_sealed;
      last = λ whole active. refl;
    }

-- ---- the pass that publishes the region: its commit is the second
publishes : HasPublished the_publisher attempt_to_publish the_region 2
publishes = (refl, (0, omega arith, refl), (2, (1, omega arith, refl), omega arith, omega arith))

before_publishing : (k : ℕ) → 1 ≤ k → k ≤ 2 → ¬ HasPublished the_publisher attempt_to_publish the_region k → 1 ≡ k
before_publishing zero from within not = absurd (omega (arith, from))
before_publishing (suc zero) from within not = refl
before_publishing (suc (suc zero)) from within not = absurd (not publishes)
before_publishing (suc (suc (suc k))) from within not = absurd (omega (arith, within))

publisher_owns : IsOwner open_memory the_publisher attempt_to_publish owned_region
publisher_owns =
    record {
      since = 1;
      commit = sealing;
      there = refl;
      sealed = (0, omega arith, refl);
      own = (0, omega arith, refl);
      complete = omega arith;
      began = λ attempting. omega arith;
      is_sealed = λ k from within not. subst (λ n. gate_at open_memory two_commits n the_region ≡ 2) (before_publishing k from within not) refl;
      as_sealed = λ k from within not. subst (λ n. words_in (state_at open_memory two_commits n) the_region ≡ 8 ∷ 9 ∷ [])
          (before_publishing k from within not) refl;
    }

pub the_publisher_known : StampedExample
the_publisher_known =
    record {
      legal = search rules;
      writers = search rules;
      rules = two_ruled.rules;
      good_states = two_good;
      lasts = search rules;
      front = search rules;
      mine = search rules;
      settled = λ not. absurd (not refl);
      stamped = λ is. record {
        stamp = 2;
        before = 1 ∷ [];
        mine = refl;
        complete = only_first;
        incomplete = omega arith;
        there = refl;
        after_start = omega arith;
      };
      named = search rules;
      joined = search rules;
      names_apart = ((λ other has. absurd (contains_none other has)), tt);
      owns = owned_ok;
      owns_once = owned_once;
      owners = of_the_owned (IsOwner open_memory the_publisher attempt_to_publish) publisher_owns;
      idle = search rules;
      attempting = λ not. record {
        started = omega arith;
        from_one = record { reads = sealed_there.reads; contents = sealed_there.contents };
        follows = publishing_attempt_follows;
        owns = owns_published;
        room = omega arith;
      };
      whole = λ whole not. absurd (not refl);
      sealed = λ whole not. absurd (not refl);
      last = λ whole active. absurd (active_stamped (sym active));
    }

-- ---- the pass that made both commits
none_owned : (region : Region) → OwnsRegion [] region → ⊥
none_owned region (k, o, below, same, is) = omega (arith, below)

-- the gate is packed in the last state
none_sealed : OwnsSealed open_memory the_regions the_pass
none_sealed =
    of_the_region (λ (r : Region). (gate_at open_memory two_commits 2 r ≡ 2) ↔ OwnsRegion [] r)
    ((λ is. absurd (omega (arith, is))), λ owns. absurd (none_owned the_region owns))

pub the_pass_known : PassExample
the_pass_known =
    record {
      legal = search rules;
      writers = search rules;
      rules = two_ruled.rules;
      good_states = two_good;
      lasts = search rules;
      front = search rules;
      mine = search rules;
      settled = λ not. first_two;
      stamped = λ is. absurd (idle_stamped is);
      named = search rules;
      joined = search rules;
      names_apart = ((λ other has. absurd (contains_none other has)), tt);
      owns = λ o has. absurd (contains_none o has);
      owns_once = λ i j before below. absurd (omega (arith, below));
      owners = λ o has. absurd (contains_none o has);
      idle = search rules;
      attempting = search rules;
      whole = search rules;
      sealed = λ whole not. none_sealed;
      last = λ whole active. absurd (idle_active active);
    }
