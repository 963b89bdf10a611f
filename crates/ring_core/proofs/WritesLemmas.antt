-- The length of a signature with one more place, and a write set without writes.
use Rattle.std.proofs.Common.{◌≡◌, ℕ, List, [], ◌∷◌, None, length, refl, arith}
use Rattle.std.proofs.lemmas.List.{length-set}
use Rattle.tx_model.specs.declared.word.Word.{Word}
use Rattle.tx_model.specs.Words.{index_of}
use Rattle.ring_sig.specs.Signature.{with_place}

pub with_place-size : (sig : List ℕ) (place : ℕ) → length (with_place sig place) ≡ length sig
unfolding with_place
with_place-size sig place = length-set sig _ _

pub nothing_written : (writes : List Word) (addr : ℕ) → length writes ≡ 0 → None ≡ index_of writes addr
unfolding index_of
nothing_written [] addr none = refl
nothing_written (write ∷ writes) addr none = absurd (omega (arith, none))
