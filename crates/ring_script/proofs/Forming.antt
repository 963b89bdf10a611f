-- Regions that are well-formed with one more.
use Rattle.std.proofs.Common.{◌≡◌, inl, inr, ℕ, ◌+◌, ◌<◌, ◌≤◌, List, [], ◌∷◌, ◌++◌, length, replicate, Contains, refl, sym, ◌∙◌, ap, subst, arith}
use Rattle.std.proofs.lemmas.Bool.{cases_lt}
use Rattle.std.proofs.lemmas.List.{length-replicate, get_or-replicate, get_or_append_left, get_or_push, length_push, get_or_default}
use Rattle.std.proofs.lemmas.List.Elements.{Contains-get_or, Contains-push_cases, Contains-push, Contains-append_left}
use Rattle.tx_model.specs.declared.gate.Region.{Region}
use Rattle.tx_model.specs.Made.{AreWellFormed, LieApart, IsIn, no_region, region_at}
use Rattle.ring_script.specs.Draft.{MayJoin}

-- the last region and the others
at_last : (regions : List Region) (r : Region) (j : ℕ) → j ≡ length regions → region_at (regions ++ r ∷ []) j ≡ r
at_last regions r j is = get_or_push regions r no_region j (sym is)

pub at_earlier : (regions : List Region) (r : Region) (j : ℕ) → j < length regions → region_at (regions ++ r ∷ []) j ≡ region_at regions j
at_earlier regions r j below = get_or_append_left regions (r ∷ []) no_region j below

module _ (words : ℕ) (regions : List Region) (r : Region) where
  -- what holds of two regions, one behind the other, where it holds of the earlier ones and of each with the last
  pairs : (R : Region → Region → Type 0) → ((i j : ℕ) → i < j → j < length regions → R (region_at regions i) (region_at regions j))
      → ((other : Region) → Contains regions other → R other r) → (i j : ℕ) → i < j → j < length (regions ++ r ∷ [])
      → R (region_at (regions ++ r ∷ []) i) (region_at (regions ++ r ∷ []) j)
  pairs R old new i j before below =
      let count = length_push regions r in
      elim (cases_lt j (length regions)) [
        | inl earlier ↦
            let at_i = sym (at_earlier regions r i (omega (arith, before, earlier))) in
            let at_j = sym (at_earlier regions r j earlier) in
            subst (λ x. R x (region_at (regions ++ r ∷ []) j)) at_i (subst (R (region_at regions i)) at_j (old i j before earlier))
        | inr late ↦
            let last : j ≡ length regions = omega (arith, late, below, count) in
            let i_below : i < length regions = omega (arith, before, last) in
            let at_i = sym (at_earlier regions r i i_below) in
            let at_j = sym (at_last regions r j last) in
            subst (λ x. R x (region_at (regions ++ r ∷ []) j)) at_i
            (subst (R (region_at regions i)) at_j (new (region_at regions i) (Contains-get_or regions i no_region i_below)))
      ]

  pub formed_push : AreWellFormed (replicate words 0) regions → MayJoin regions r words → AreWellFormed (replicate words 0) (regions ++ r ∷ [])
  formed_push formed may =
      let count : length {A = ℕ} (replicate words 0) ≡ words = length-replicate words 0 in
      record {
        lie_in = λ x among.
            elim (Contains-push_cases regions r x among) [
              | inl earlier ↦ formed.lie_in x earlier
              | inr here ↦
                  let size : ℕ = length {A = ℕ} (replicate words 0) in
                  subst (λ (y : Region). (0 < y.len) × (y.base + y.len ≤ size) × (y.gate < size)) here
                  (may.lies_in.some, omega (arith, may.lies_in.within, count), omega (arith, may.lies_in.gate, count))
            ];
        lie_apart = pairs LieApart formed.lie_apart (λ other among. let beside = may.others other among in beside.apart);
        gates_apart = pairs (λ (x y : Region). x.gate ≡ y.gate → ⊥) formed.gates_apart (λ other among. let beside = may.others other among in beside.gates);
        gates_outside = λ x y among also inside.
            elim (Contains-push_cases regions r x among) [
              | inl earlier ↦
                  elim (Contains-push_cases regions r y also) [
                    | inl before ↦ formed.gates_outside x y earlier before inside
                    | inr here ↦ let beside = may.others x earlier in beside.first_out (subst (λ (z : Region). IsIn x.gate z) (sym here) inside)
                  ]
              | inr here ↦
                  elim (Contains-push_cases regions r y also) [
                    | inl before ↦ let beside = may.others y before in beside.second_out (subst (λ (z : Region). IsIn z.gate y) (sym here) inside)
                    | inr there ↦
                        may.lies_in.outside
                        (subst (λ (z : Region). IsIn z.gate r) (sym here) (subst (λ (z : Region). IsIn x.gate z) (sym there) inside))
                  ]
            ];
        gates_opening = λ x among.
            elim (Contains-push_cases regions r x among) [
              | inl earlier ↦ formed.gates_opening x earlier
              | inr here ↦
                  inl (get_or-replicate words x.gate 0 0 (subst (λ (y : Region). y.gate < words) here may.lies_in.gate))
            ];
      }

  pub formed_last : AreWellFormed (replicate words 0) (regions ++ r ∷ []) → MayJoin regions r words
  formed_last formed =
      let count : length {A = ℕ} (replicate words 0) ≡ words = length-replicate words 0 in
      let pushed = length_push regions r in
      let here = Contains-push regions r in
      let lies = formed.lie_in r here in
      record {
        lies_in = record {
          some = lies.0;
          within = omega (arith, lies.1, count);
          gate = omega (arith, lies.2, count);
          outside = formed.gates_outside r r here here;
        };
        others = λ other among.
            let k = among.0 in
            let is : region_at (regions ++ r ∷ []) k ≡ other = at_earlier regions r k among.1 ∙ get_or_default regions k no_region other among.1 ∙ among.2 in
            let last : region_at (regions ++ r ∷ []) (length regions) ≡ r = at_last regions r (length regions) refl in
            let below : length regions < length (regions ++ r ∷ []) = omega (arith, pushed) in
            let there = Contains-append_left regions (r ∷ []) other among in
            record {
              apart =
                  subst (λ x. LieApart x r) is
                  (subst (LieApart (region_at (regions ++ r ∷ []) k)) last (formed.lie_apart k (length regions) among.1 below));
              gates = λ same.
                  formed.gates_apart k (length regions) among.1 below
                  (ap (λ (x : Region). x.gate) is ∙ same ∙ sym (ap (λ (x : Region). x.gate) last));
              first_out = formed.gates_outside other r there here;
              second_out = formed.gates_outside r other here there;
            };
      }

-- no regions are well-formed
pub formed_none : (words : ℕ) → AreWellFormed (replicate words 0) []
formed_none words = record {
  lie_in = λ region known. absurd (omega (arith, known.1));
  lie_apart = λ i j before below. absurd (omega (arith, below));
  gates_apart = λ i j before below. absurd (omega (arith, below));
  gates_outside = λ region other known. absurd (omega (arith, known.1));
  gates_opening = λ region known. absurd (omega (arith, known.1));
}
