-- A memory of three words that fits has the 5 that was read, and any last word.
use Rattle.std.proofs.Common.{◌≡◌, ℕ, List, [], ◌∷◌, Some, length, get_or, slice_get, refl, arith}
use Rattle.std.proofs.lemmas.Option.{same_Some}
use Rattle.std.proofs.lemmas.List.Elements.{All-from_recursion}
use Rattle.tx_model.specs.declared.word.Word.{Word}
use Rattle.tx_model.specs.Words.{no_word}
use Rattle.tx_model.specs.Attempt.{Fits}
use Rattle.tx_model.specs.Memory.{after}
use Rattle.tx_model.specs.Examples.{one_read_one_written}
use Rattle.tx_model.proofs.ShareNames.{contains_none}
use Rattle.tx_model.proofs.laws.examples.holds_examples.Goals as goal

both : (memory : List ℕ) → length memory ≡ 3 → slice_get memory 0 ≡ Some 5
    → (get_or (after memory one_read_one_written.writes) 0 0 ≡ 5) × (get_or (after memory one_read_one_written.writes) 1 0 ≡ 7)
both [] many first = absurd (omega (arith, many))
both (a ∷ []) many first = absurd (omega (arith, many))
both (a ∷ b ∷ rest) many first = (same_Some a 5 first, refl)

pub returns-clause-over : goal.returns-clause-over
returns-clause-over c memory many fits = both memory many (fits.reads 0 no_word (omega arith))

pub returns-clause-not_over : goal.returns-clause-not_over
returns-clause-not_over c holds =
    let fits : Fits (5 ∷ 0 ∷ 4 ∷ []) one_read_one_written [] = record {
      reads = All-from_recursion (λ (w : Word). slice_get (5 ∷ 0 ∷ 4 ∷ []) w.addr ≡ Some w.value) one_read_one_written.reads (refl, tt);
      contents = λ o among. absurd (contains_none o among);
    } in
    omega (arith, holds (5 ∷ 0 ∷ 4 ∷ []) refl fits)
