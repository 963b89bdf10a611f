-- The gate is word 0, and the table has one view.
use Rattle.std.proofs.Common.{ℕ, zero, suc, ◌≤◌, [], ◌∷◌, Contains, Some, refl, sym, ◌∙◌, ap, subst, inl, arith, rules}
use Rattle.std.proofs.lemmas.Option.{same_Some}
use Rattle.tx_model.specs.Made.{Made}
use Rattle.turn_memory.specs.Lock.{knowing, pass_of, IsSeat, HoldsLast}
use Rattle.turn_memory.specs.Examples.{two_commits, the_region, resting_heap, AnySense, all_knowing}
use Rattle.turn_memory.proofs.ExamplesFacts.{gate_is, example_history}
use Rattle.turn_memory.proofs.Views.{idle_not_active}
use Rattle.tx_model.proofs.lemmas.Lists.{only_item}
use Rattle.turn_memory.proofs.laws.rule_examples.Goals as goal

pub returns-clause-none_sealed : goal.returns-clause-none_sealed
returns-clause-none_sealed c = (
  gate_is (1 ∷ 5 ∷ 6 ∷ 8 ∷ []) (λ is. omega (arith, is)),
  λ none. none the_region (0, omega arith, refl) refl,
)

pub returns-clause-history : goal.returns-clause-history
returns-clause-history c = example_history

pub returns-clause-free : goal.returns-clause-free
returns-clause-free c about =
    record {
      word = refl;
      heap = resting_heap;
      home = refl;
      last = record { words = refl; commits = refl };
      nobody = λ i known e active. idle_not_active (ap (λ k. (pass_of k).state) (only_item _ i known e).1 ∙ active);
    }

pub returns-clause-taken : goal.returns-clause-taken
returns-clause-taken c about =
    record {
      word = λ e. omega (arith, e);
      away = refl;
      holder = 0;
      busy = (_, refl, refl);
      only = λ i known e active. (only_item _ i known e).0;
    }

own : (stamp : ℕ) → 1 ≤ stamp → stamp ≤ 2 → Contains (1 ∷ 2 ∷ []) stamp
own zero least most = absurd (omega (arith, least))
own (suc zero) least most = (0, omega arith, refl)
own (suc (suc zero)) least most = (1, omega arith, refl)
own (suc (suc (suc stamp))) least most = absurd (omega (arith, most))

pub returns-clause-table : goal.returns-clause-table
returns-clause-table c about made =
    let seat : IsSeat about two_commits (knowing about all_knowing) = search rules in
    record {
      history = two_commits;
      history_is = example_history about made;
      one_word = refl;
      one_slot = refl;
      seats = λ i k e. subst (IsSeat about two_commits) (same_Some _ _ (only_item _ i (Some k) e).1) seat;
      shares = record {
        names = λ i j known other e f apart. absurd (apart ((only_item _ i known e).0 ∙ sym (only_item _ j other f).0));
        all = λ stamp least most. (0, _, refl, own stamp least most);
        once = λ i j known other stamp e f has has'. (only_item _ i known e).0 ∙ sym (only_item _ j other f).0;
      };
      lock = inl (record {
        word = refl;
        heap = resting_heap;
        home = refl;
        last = subst (λ (made : Made AnySense). HoldsLast made.opening two_commits resting_heap) (sym made) (record { words = refl; commits = refl });
        nobody = λ i known e active. idle_not_active (ap (λ k. (pass_of k).state) (only_item _ i known e).1 ∙ active);
      });
    }
