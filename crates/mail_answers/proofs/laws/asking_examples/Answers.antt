-- By what was read and written.
use Rattle.std.proofs.Common.{sym, ◌∙◌, refl, arith}
use Rattle.std.proofs.lemmas.Option.{get_or_from_slice_get}
use Rattle.tx_model.specs.Words.{no_word}
use Rattle.tx_heap.specs.Layout.{sizes_of}
use Rattle.tx_heap.proofs.lemmas.HeapWords.{gate_word}
use Rattle.tx_heap.proofs.lemmas.Lanes.{contains_none}
use Rattle.mail_answers.specs.Examples.{three_lists}
use Rattle.mail_answers.proofs.laws.asking_examples.Goals as goal

pub returns-clause-numbers : goal.returns-clause-numbers
returns-clause-numbers c = refl

pub returns-clause-read : goal.returns-clause-read
returns-clause-read c read none = record {
  wrote_none = refl;
  all = λ key among. absurd (contains_none key among);
  of_rows = λ memory good agrees packed key messages is. let e = sym (none key) ∙ is in cc;
}

pub returns-clause-wrote : goal.returns-clause-wrote
returns-clause-wrote c read did = let e = did.wrote_none in cc

pub returns-clause-met_sealed : goal.returns-clause-met_sealed
returns-clause-met_sealed c read memory good agrees =
    gate_word (sizes_of three_lists) memory 0 (omega arith) ∙ get_or_from_slice_get memory 19 2 0 (agrees 0 no_word (omega arith))
