-- One attempt that is sound, and what each part of soundness refuses.
use Rattle.std.proofs.Common.{◌≡◌, ℕ, ◌<◌, List, [], ◌∷◌, All, get_or, zero, suc, refl, ap, arith}
use Rattle.std.proofs.lemmas.List.Elements.{All-nil, All-push}
use Rattle.tx_model.specs.declared.word.Word.{Word}
use Rattle.tx_model.specs.Words.{index_of, no_word}
use Rattle.tx_model.specs.WordLaws.{word}
use Rattle.ring_sig.specs.Signature.{place_of, with_place}
use Rattle.ring_sig.proofs.Lemmas.{signature_exists}
use Rattle.ring_core.proofs.laws.sound_examples.Goals as goal

-- only one element
at_first : (P : Word → Type 0) (w : Word) → P w → All P (w ∷ [])
at_first P w here = All-push P [] w (All-nil P) here

-- of the place of address 1
not_15 : (k : ℕ) → k < 1 → get_or {A = ℕ} (39 ∷ []) k 15 ≡ 15 → ⊥
not_15 zero below at = omega (arith, at)
not_15 (suc k) below at = omega (arith, below)

pub returns-clause-sound : goal.returns-clause-sound
unfolding place_of with_place index_of
returns-clause-sound c = record {
  sized = record {
    lived = omega arith;
    reads = refl;
    fits = omega arith;
    apart = λ i j first below. absurd (omega (arith, first, below));
    within = at_first (λ (w : Word). w.addr < 64) (word 1 5) (omega arith);
    wrote = refl;
    signed = signature_exists 1 (1 ∷ []) refl;
    scratch = refl;
  };
  idle = λ is. absurd (cc);
  unstamped = λ _. refl;
  stage = λ is. cc;
}

pub returns-clause-left_over : goal.returns-clause-left_over
returns-clause-left_over c sound = let none = (sound.idle refl).writes in cc

pub returns-clause-left_read : goal.returns-clause-left_read
unfolding place_of with_place
returns-clause-left_read c sound =
    let low : 549755813888 ≡ 0 = ap (λ (words : List ℕ). get_or words 0 0) (sound.idle refl).reads in omega (arith, low)

pub returns-clause-stale_stamp : goal.returns-clause-stale_stamp
returns-clause-stale_stamp c sound = let none = sound.unstamped (λ is. cc) in omega (arith, none)

pub returns-clause-wrote_twice : goal.returns-clause-wrote_twice
returns-clause-wrote_twice c sound = sound.sized.apart 0 1 (omega arith) (omega arith) refl

pub returns-clause-past_heap : goal.returns-clause-past_heap
unfolding index_of
returns-clause-past_heap c sound = let within = sound.sized.within 0 no_word (omega arith) in omega (arith, within)

pub returns-clause-larger_signature : goal.returns-clause-larger_signature
unfolding place_of with_place index_of
returns-clause-larger_signature c sound =
    let among = (sound.sized.signed.places 15).0 refl in
    not_15 among.0 among.1 among.2

pub returns-clause-low_candidate : goal.returns-clause-low_candidate
returns-clause-low_candidate c sound = let kept = sound.stage.2.kept in omega (arith, kept)
