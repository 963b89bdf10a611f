-- Attempts on openings.
use Rattle.std.proofs.Common.{◌≡◌, [], ◌∷◌, length, refl, ◌∙◌, ap, arith}
use Rattle.std.proofs.lemmas.Option.{get_or_from_slice_get}
use Rattle.tx_model.specs.declared.word.Word.{Word}
use Rattle.tx_model.specs.Words.{index_of, no_word}
use Rattle.tx_model.specs.WordLaws.{word}
use Rattle.tx_model.specs.Calls.{IsLater}
use Rattle.tx_heap.specs.Layout.{sizes_of}
use Rattle.tx_heap.specs.Calls.{writes_of_fresh}
use Rattle.tx_heap.specs.Examples.{three_lists, many_lists, made_for, the_pass}
use Rattle.tx_heap.proofs.lemmas.HeapWords.{lane_word}
use Rattle.tx_heap.proofs.laws.attempt_examples.Goals as goal

later : IsLater the_pass the_pass
later = record { history = ([], refl); front = omega arith; mine = refl; owned = refl; share = refl }

pub returns-clause-opened : goal.returns-clause-opened
unfolding index_of
returns-clause-opened c = record {
  goes_on = record { goes_on = record { active = refl; later = later; start = omega arith }; reads = refl; writes = refl; sealed = refl; published = refl };
  within = omega arith;
  own = λ memory good fits.
      let word = get_or_from_slice_get memory 1 1 0 (fits.reads 0 no_word (omega arith)) in
      omega (arith, lane_word (sizes_of three_lists) memory 0 (omega arith), word);
  is_open = refl;
}

pub returns-clause-unused : goal.returns-clause-unused
unfolding index_of
returns-clause-unused c = (
  record {
    goes_on = record { goes_on = record { active = refl; later = later; start = omega arith }; reads = refl; writes = refl; sealed = refl; published = refl };
    within = omega arith;
    pool = λ memory good fits. get_or_from_slice_get memory 0 8 0 (fits.reads 0 no_word (omega arith));
    gate_read = (1, word 3976 0, omega arith, refl, refl);
    is_unused = refl;
  },
  λ found. omega (arith, found.within),
)

pub returns-clause-writes : goal.returns-clause-writes
unfolding index_of
returns-clause-writes c = refl

fewer : writes_of_fresh (made_for many_lists) [] 2 2 8
    ≡ record { addr = 3976; value = 1 } ∷ record { addr = 266130; value = 1032 } ∷ record { addr = 3985; value = 3 } ∷ record { addr = 3; value = 9 }
    ∷ record { addr = 0; value = 9 } ∷ []
unfolding index_of
fewer = refl

pub returns-clause-not_fresh : goal.returns-clause-not_fresh
returns-clause-not_fresh c made = omega (arith, ap (length {A = Word}) (made.goes_on.writes ∙ fewer))
