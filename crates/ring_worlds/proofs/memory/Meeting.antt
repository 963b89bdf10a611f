-- Commits that write the same address meet.
use Rattle.std.proofs.Common.{◌≡◌, ℕ, ◌<◌, List, length, Contains, sym, ◌∙◌, ap, subst}
use Rattle.std.proofs.lemmas.List.{length-map, get_or-map}
use Rattle.tx_model.specs.declared.word.Word.{Word}
use Rattle.tx_model.specs.Words.{no_word, word_at, addresses}
use Rattle.ring_sig.specs.Signature.{place_of, places_of, Meet}

has_place : (bits : ℕ) (words : List Word) (i : ℕ) → i < length words → Contains (places_of (addresses words) bits) (place_of (word_at words i).addr bits)
has_place bits words i below =
    let within : i < length (addresses words) = rw length-map below in (
      i,
      rw length-map within,
      get_or-map (λ a. place_of a bits) (addresses words) i 0 _ within ∙ ap (λ a. place_of a bits) (get_or-map (λ (w : Word). w.addr) words i no_word 0 below),
    )

pub common_meets : (bits : ℕ) (one other : List Word) (i j : ℕ) → i < length one → j < length other
    → (word_at one i).addr ≡ (word_at other j).addr → Meet bits (addresses one) (addresses other)
common_meets bits one other i j in_one in_other same = (
  place_of (word_at one i).addr bits,
  has_place bits one i in_one,
  subst (λ a. Contains (places_of (addresses other) bits) (place_of a bits)) (sym same) (has_place bits other j in_other),
)
