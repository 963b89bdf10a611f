-- What the tries are named by, and that publishing leads from the gate at 2 to 3.
use Rattle.std.proofs.Common.{◌≡◌, ℕ, ◌<◌, List, [], ◌∷◌, length, refl, ◌∙◌, arith, rules}
use Rattle.ring_sig.specs.Signature.{place_of}
use Rattle.tx_model.specs.Words.{no_word, index_of}
use Rattle.tx_model.specs.Memory.{after}
use Rattle.tx_model.specs.History.{after_commit}
use Rattle.tx_model.specs.Attempt.{Fits}
use Rattle.tx_model.specs.Examples.{publishing, owned_region, attempt_to_publish}
use Rattle.tx_model.specs.CallExamples.{gate_left, seven_read, raising}
use Rattle.tx_model.proofs.ExamplesFacts.{same_number}
use Rattle.tx_model.proofs.lemmas.States.{after_length}
use Rattle.tx_model.proofs.laws.examples.try_examples.Goals as goal

publishes : (memory : List ℕ) → length memory ≡ 4 → Fits memory attempt_to_publish (owned_region ∷ [])
    → (length (after_commit memory publishing) ≡ 4) × (gate_left tt (after_commit memory publishing) < gate_left tt memory)
publishes [] four fits = absurd (omega (arith, four))
publishes (gate ∷ memory) four fits =
    let two : gate ≡ 2 = same_number gate 2 (fits.reads 0 no_word (omega arith)) in (
      after_length (after (gate ∷ memory) publishing.writes) publishing.carry ∙ after_length (gate ∷ memory) publishing.writes ∙ four,
      omega (arith, two),
    )

pub returns-clause-ready : goal.returns-clause-ready
returns-clause-ready c = record { goes_on = search rules; may = λ some. publishes }

pub returns-clause-done : goal.returns-clause-done
returns-clause-done c = record { attempt = attempt_to_publish; fresh = omega arith; meaning = refl; committed = search rules }

pub returns-clause-gave_up : goal.returns-clause-gave_up
unfolding index_of
returns-clause-gave_up c = record {
  attempt = seven_read;
  fresh = omega arith;
  meaning = refl;
  ended = search rules;
  one_state = search rules;
}

pub returns-clause-no_more : goal.returns-clause-no_more
returns-clause-no_more c = record { attempt = attempt_to_publish; fresh = omega arith; meaning = refl; worn = search rules }

-- address 1 has place 39 of 64
pub returns-clause-step_stopped : goal.returns-clause-step_stopped
unfolding place_of
returns-clause-step_stopped c = (
  search rules,
  record {
    start = 1;
    reads = [];
    asked = 1;
    no_older = omega arith;
    one_state = search rules;
    shown = record {
      later = omega arith;
      commit = raising;
      there = refl;
      shared = (39, (0, omega arith, refl), (0, omega arith, refl));
    };
  },
)

pub returns-clause-step_refused : goal.returns-clause-step_refused
unfolding index_of
returns-clause-step_refused c = (search rules, refl)

pub returns-clause-not_done : goal.returns-clause-not_done
returns-clause-not_done c = (returns-clause-gave_up c, returns-clause-no_more c)

pub returns-clause-once_not_done : goal.returns-clause-once_not_done
returns-clause-once_not_done c = ((refl, search rules), returns-clause-gave_up c)
