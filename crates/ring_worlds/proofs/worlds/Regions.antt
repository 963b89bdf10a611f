-- A sealed region in a history that follows the rule: its gate stays sealed until a commit publishes it.
use Rattle.std.proofs.Common.{◌≡◌, ℕ, ◌+◌, ◌≤◌, List, Option, Some, slice_get, slice_index, Contains, sym, ◌∙◌, ap, arith, inl, inr}
use Rattle.std.proofs.lemmas.Option.{get_or_from_slice_get}
use Rattle.tx_model.specs.declared.gate.Region.{Region}
use Rattle.tx_model.specs.declared.gate.TheConstants.{GATE_UNUSED, GATE_OPEN, GATE_SEALED}
use Rattle.tx_model.specs.declared.history.Commit.{Commit}
use Rattle.tx_model.specs.Words.{value_of}
use Rattle.tx_model.specs.Memory.{words_in}
use Rattle.tx_model.specs.History.{state_at}
use Rattle.tx_model.specs.Attempt.{first_of}
use Rattle.tx_model.specs.Rule.{WasOpen, IsGateWrite}
use Rattle.tx_model.specs.RuleLaws.{IsRuled}
use Rattle.tx_model.proofs.lemmas.Values.{value_cases, value_agrees}
use Rattle.tx_model.proofs.lemmas.Gates.{gate_next, words_stay, gates_rise}

module _ (opening : List ℕ) (regions : List Region) (history : List Commit) (ruled : IsRuled opening regions history) (region : Region)
    (among : Contains regions region) where
  -- the gate is sealed after so many commits
  abbrev pub IsSealedAt : ℕ → Type 0
  IsSealedAt k = slice_get (state_at opening history k) region.gate ≡ Some GATE_SEALED

  not_read : (k value : ℕ) (commit : Commit) → slice_get history k ≡ Some commit → IsSealedAt k → value_of commit.reads region.gate ≡ Some value
      → value ≡ GATE_SEALED
  not_read k value commit there sealed read =
      let now = value_agrees commit.reads (state_at opening history k) region.gate value (ruled.legal k commit there) read in cc

  -- a commit that found the gate sealed did not find it open
  pub not_open : (k : ℕ) (commit : Commit) → slice_get history k ≡ Some commit → IsSealedAt k → WasOpen commit.reads commit.writes region → ⊥
  not_open k commit there sealed (inl read) = let e = not_read k GATE_OPEN commit there sealed read in omega (arith, e)
  not_open k commit there sealed (inr (read, wrote)) = let e = not_read k GATE_UNUSED commit there sealed read in omega (arith, e)

  -- so it can't seal it
  pub not_sealed_again : (k : ℕ) (commit : Commit) → slice_get history k ≡ Some commit → IsSealedAt k → Contains commit.sealed region → ⊥
  not_sealed_again k commit there sealed seals = not_open k commit there sealed ((ruled.rules k commit there).uses.seals region seals).1.was_open

  -- a commit that seals it leaves its gate sealed
  pub seals_gate : (k : ℕ) (commit : Commit) → slice_get history k ≡ Some commit → Contains commit.sealed region → IsSealedAt (k + 1)
  seals_gate k commit there seals =
      gate_next opening regions history ruled region among k commit there
      ∙ ap (λ (o : Option ℕ). first_of o (slice_get (state_at opening history k) region.gate)) ((ruled.rules k commit there).uses.seals region seals).1.wrote

  -- and any other leaves it so, but for one that publishes it
  pub stays_sealed : (k : ℕ) (commit : Commit) → slice_get history k ≡ Some commit → IsSealedAt k → (Contains commit.published region → ⊥) → IsSealedAt (k + 1)
  stays_sealed k commit there sealed not =
      elim (value_cases commit.writes region.gate) [
        | inl (value, wrote) ↦ absurd (written value ((ruled.rules k commit there).uses.gates region value among wrote))
        | inr none ↦
            gate_next opening regions history ruled region among k commit there
            ∙ ap (λ (o : Option ℕ). first_of o (slice_get (state_at opening history k) region.gate)) none
            ∙ sealed
      ]
    where
      written : (value : ℕ) → IsGateWrite commit.reads commit.sealed commit.published region value → ⊥
      written value (inl (is, read)) = let e = not_read k GATE_UNUSED commit there sealed read in omega (arith, e)
      written value (inr (inl (is, seals))) = not_sealed_again k commit there sealed seals
      written value (inr (inr (is, published))) = not published

  gate_is : (k : ℕ) → IsSealedAt k → slice_index (state_at opening history k) region.gate ≡ GATE_SEALED
  gate_is k sealed = get_or_from_slice_get (state_at opening history k) region.gate GATE_SEALED 0 sealed

  -- between two states with the gate sealed it is sealed, and the words are the same
  pub sealed_since : (i k : ℕ) → i ≤ k → IsSealedAt i → IsSealedAt k
      → words_in (state_at opening history k) region ≡ words_in (state_at opening history i) region
  sealed_since i k before one other =
      words_stay opening regions history region i k ruled among before (let e = gate_is i one in omega (arith, e)) (gate_is k other ∙ sym (gate_is i one))

  pub sealed_between : (i k more : ℕ) (value : ℕ) → i ≤ k → k ≤ more → IsSealedAt i → IsSealedAt more
      → slice_get (state_at opening history k) region.gate ≡ Some value → value ≡ GATE_SEALED
  sealed_between i k more value first last one other here =
      let low = gates_rise opening regions history region i k ruled among first in
      let high = gates_rise opening regions history region k more ruled among last in
      let e = get_or_from_slice_get (state_at opening history k) region.gate value 0 here in
      omega (arith, low, high, e, gate_is i one, gate_is more other)
