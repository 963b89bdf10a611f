-- Two signatures compared, by the arrays that they lie in.
use Rattle.std.proofs.Common.{◌≡◌, ◌≢◌, ℕ, ◌^◌, ◌<◌, List, length, get_or, take, bit_and, sym, ap, ◌∙◌, subst}
use Rattle.ring_sig.specs.Signature.{SharesPlace}
use Rattle.ring_sig.specs.Padded.{IsPadded, used_length}
use Rattle.ring_sig.proofs.Shared.{shares_at, apart_below}

module _ (ws vs : List ℕ) (n m : ℕ) (left : IsPadded ws n) (right : IsPadded vs m) (s t : List ℕ) (is_s : take n ws ≡ s) (is_t : take m vs ≡ t)
    (same : length s ≡ length t) where
  counts : m ≡ n
  counts = sym (used_length vs m right) ∙ ap length is_t ∙ sym same ∙ ap length (sym is_s) ∙ used_length ws n left

  also_t : take n vs ≡ t
  also_t = subst (λ k. take k vs ≡ t) counts is_t

  pub shares : (j : ℕ) → j < n → bit_and (get_or ws j 0) (get_or vs j 0) ≢ 0 → get_or ws j 0 < 2 ^ 64 → SharesPlace s t
  shares j below some fits =
      subst (λ x. SharesPlace x t) is_s (subst (λ y. SharesPlace (take n ws) y) also_t (shares_at ws vs n j below some fits))

  pub apart : ((k : ℕ) → k < n → bit_and (get_or ws k 0) (get_or vs k 0) ≡ 0) → SharesPlace s t → ⊥
  apart each both =
      apart_below ws vs n (used_length ws n left) each
      (subst (λ x. SharesPlace x (take n vs)) (sym is_s) (subst (λ y. SharesPlace s y) (sym also_t) both))
