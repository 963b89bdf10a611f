-- A word at address 9 agrees with no state of a memory of four words.
use Rattle.std.proofs.Common.{ℕ, List, refl, arith}
use Rattle.std.proofs.lemmas.Option.{slice_get_within}
use Rattle.ring_sig.specs.Signature.{place_of}
use Rattle.tx_model.specs.declared.word.Word.{Word}
use Rattle.tx_model.specs.Words.{HasAddress}
use Rattle.tx_model.specs.History.{state_at}
use Rattle.tx_model.specs.Opacity.{ReadFromState}
use Rattle.tx_model.specs.Examples.{open_memory}
use Rattle.tx_model.specs.CallExamples.{overtaken, raising}
use Rattle.tx_model.proofs.lemmas.States.{state_length}
use Rattle.tx_model.proofs.lemmas.Values.{contains_has, has_value, value_agrees}
use Rattle.tx_model.proofs.laws.examples.stop_examples.Goals as goal

not_read : (reads : List Word) (k : ℕ) → ReadFromState open_memory overtaken.history reads k → HasAddress reads 9 → ⊥
not_read reads k one has =
    let memory = state_at open_memory overtaken.history k in
    let (value, is) = has_value reads 9 has in
    let within = slice_get_within memory 9 value (value_agrees reads memory 9 value one.agree is) in
    omega (arith, within, state_length open_memory overtaken.history k)

-- address 1 has place 39 of 64
pub returns : goal.returns
unfolding place_of
returns c = record {
  past_end = (
    (
      record {
        later = omega arith;
        commit = raising;
        there = refl;
        shared = (39, (0, omega arith, refl), (0, omega arith, refl));
      },
      (0, omega arith, refl),
    ),
    λ stopped.
        let shown = stopped.1 in
        not_read shown.reads shown.start shown.one_state (contains_has shown.reads 9 shown.shown.1),
  );
}
