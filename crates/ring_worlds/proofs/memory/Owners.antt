-- Which words are owned, after a change of one caller.
use Rattle.std.proofs.Common.{◌≡◌, ◌⊎◌, ℕ, zero, suc, ◌+◌, ◌<◌, ◌≤◌, List, [], ◌∷◌, set, take, drop, Contains, refl, sym, ◌∙◌, ap, subst, arith, inl, inr}
use mathlib.Core.Option.{some, some-injective}
use lib.ListN.{get_elem?}
use Rattle.std.proofs.lemmas.Bool.{cases_eq, cases_lt}
use Rattle.tx_model.specs.declared.view.Owned.{Owned}
use Rattle.tx_model.specs.declared.gate.Region.{Region}
use Rattle.tx_model.specs.Made.{IsIn}
use Rattle.tx_model.specs.Memory.{words_in}
use Rattle.ring_worlds.specs.declared.process.Process.{Process}
use Rattle.ring_worlds.specs.Memory.{IsOwned}
use Rattle.ring_worlds.proofs.lemmas.Lists.{at_set, set_here, set_else}

module _ (processes : List Process) (who : ℕ) (p q : Process) (here : get_elem? processes who ≡ some p) where
  pub was_owned : ((o : Owned) → Contains q.owned o → Contains p.owned o) → (addr : ℕ) → IsOwned (set processes who q) addr → IsOwned processes addr
  was_owned back addr own =
      elim (at_set processes who own.who q own.process own.here) [
        | inl (same, is) ↦ record {
          who = who;
          process = p;
          here = here;
          owned = own.owned;
          among = back own.owned (subst (λ (r : Process). Contains r.owned own.owned) (sym is) own.among);
          inside = own.inside;
        }
        | inr (other, was) ↦ record { who = own.who; process = own.process; here = was; owned = own.owned; among = own.among; inside = own.inside }
      ]

  pub still_owned : ((o : Owned) → Contains p.owned o → Contains q.owned o) → (addr : ℕ) → IsOwned processes addr → IsOwned (set processes who q) addr
  still_owned forth addr own =
      elim (cases_eq own.who who) [
        | inl same ↦
            let is : own.process ≡ p = some-injective own.process p (sym own.here ∙ ap (get_elem? processes) same ∙ here) in
            record {
              who = who;
              process = q;
              here = set_here processes who q p here;
              owned = own.owned;
              among = forth own.owned (subst (λ (r : Process). Contains r.owned own.owned) is own.among);
              inside = own.inside;
            }
        | inr other ↦ record {
          who = own.who;
          process = own.process;
          here = set_else processes who own.who q other
              ∙ own.here;
          owned = own.owned;
          among = own.among;
          inside = own.inside;
        }
      ]

-- a store outside a region leaves its words
take_set : (len : ℕ) (xs : List ℕ) (at value : ℕ) → len ≤ at → take len (set xs at value) ≡ take len xs
take_set zero xs at value past = refl
take_set (suc len) [] at value past = refl
take_set (suc len) (x ∷ xs) zero value past = absurd (omega (arith, past))
take_set (suc len) (x ∷ xs) (suc at) value past = ap (λ (l : List ℕ). x ∷ l) (take_set len xs at value (omega (arith, past)))

take_drop_set : (base len : ℕ) (xs : List ℕ) (at value : ℕ) → (at < base) ⊎ (base + len ≤ at) → take len (drop base (set xs at value)) ≡ take len (drop base xs)
take_drop_set zero len xs at value (inl before) = absurd (omega (arith, before))
take_drop_set zero len xs at value (inr past) = take_set len xs at value (omega (arith, past))
take_drop_set (suc base) len [] at value outside = refl
take_drop_set (suc base) len (x ∷ xs) zero value outside = refl
take_drop_set (suc base) len (x ∷ xs) (suc at) value (inl before) = take_drop_set base len xs at value (inl (omega (arith, before)))
take_drop_set (suc base) len (x ∷ xs) (suc at) value (inr past) = take_drop_set base len xs at value (inr (omega (arith, past)))

pub stays_in : (memory : List ℕ) (region : Region) (at value : ℕ) → ¬ IsIn at region → words_in (set memory at value) region ≡ words_in memory region
stays_in memory region at value out = take_drop_set region.base region.len memory at value (outside (cases_lt at region.base))
  where
    outside : (at < region.base) ⊎ (region.base ≤ at) → (at < region.base) ⊎ (region.base + region.len ≤ at)
    outside (inl before) = inl before
    outside (inr from) =
        elim (cases_lt at (region.base + region.len)) [
          | inl inside ↦ absurd (out (from, inside))
          | inr past ↦ inr past
        ]
