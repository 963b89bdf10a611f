-- A new table keeps the rule, and its first pass knows all.
use Rattle.std.proofs.Common.{inr, rules, ◌≢◌, ◌≡◌, ℕ, List, [], ◌∷◌, slice_index, Contains, Vec, Global, Some, None, refl, sym, ◌∙◌, ap, subst, arith, inl}
use Rattle.std.proofs.lemmas.Option.{same_Some, slice_get_within}
use Rattle.atomic_table.specs.Seated.{TableId}
use Rattle.atomic_table.specs.Table.{opening}
use Rattle.tx_model.specs.declared.gate.Region.{Region}
use Rattle.tx_model.specs.declared.gate.TheConstants.{GATE_SEALED}
use Rattle.tx_model.specs.Made.{Made, IsMade}
use Rattle.tx_model.proofs.lemmas.Lists.{only_item}
use Rattle.turn_memory.specs.declared.table.About.{About}
use Rattle.turn_memory.specs.declared.pass.TurnPass.{TurnPass}
use Rattle.turn_memory.specs.Heap.{HeapView, resting}
use Rattle.turn_memory.specs.Lock.{GoodOf, BudgetOf, IsTable, IsPlain, IsKnown, IsHistoryOf, HoldsLast, first_known, first_pass, made_of, made_with, pass_of}
use Rattle.turn_memory.specs.TurnPass.{IsPassOf}
use Rattle.turn_memory.proofs.Known.{pass_knows}
use Rattle.turn_memory.proofs.Views.{idle_not_active}

first_plain : IsPlain first_pass
first_plain = search rules

no_history : {S : Type 0} {allows : S → List Region → Type 0} {good : GoodOf S} (budget : BudgetOf S) {m : Made S}
    → IsMade allows good m → IsHistoryOf good budget m []
no_history budget {m} made =
    record {
      legal = λ k commit there. absurd (omega (arith, slice_get_within [] k commit there));
      writers = λ k commit there. absurd (omega (arith, slice_get_within [] k commit there));
      rules = λ k commit there. absurd (omega (arith, slice_get_within [] k commit there));
      good_states = record {
        states = λ k within. let first : k ≡ 0 = omega (arith, within) in rw first made.opening_good;
        falls = λ k below. absurd (omega (arith, below));
      };
      lasts = omega arith;
      unsealed = λ k within. let first : k ≡ 0 = omega (arith, within) in rw first opened;
    }
  where
    opened : (region : Region) → Contains m.regions region → slice_index m.opening region.gate ≢ GATE_SEALED
    opened region has is =
        elim (made.well_formed.gates_opening region has) [
          | inl unused ↦ omega (arith, is, unused)
          | inr used ↦ elim used [
            | inl open_gate ↦ omega (arith, is, open_gate)
            | inr packed ↦ omega (arith, is, packed)
          ]
        ]

module _ {S : Type 0} {allows : S → List Region → Type 0} {good : GoodOf S} {about : About S}
    (budget : BudgetOf S) (made : IsMade allows good (made_of about)) where
  pub new_keeps : (heap : HeapView) → heap ≡ resting (made_of about).opening 0
      → IsTable good budget about (opening (0 ∷ []) (Some heap ∷ []) (first_known about))
  new_keeps heap is =
      record {
        history = [];
        history_is = no_history budget made;
        one_word = refl;
        one_slot = refl;
        seats = λ i k e. rw (← same_Some _ _ (only_item (first_known about) i (Some k) e).1) (record {
          told = refl;
          learned = record { known = ([], refl); other = ([], refl); shorter = omega arith };
          plain = first_plain;
          active = λ active. refl;
        });
        shares = record {
          names = λ i j known other e f apart. absurd (apart ((only_item (first_known about) i known e).0 ∙ sym (only_item (first_known about) j other f).0));
          all = λ stamp least most. absurd (omega (arith, least, most));
          once = λ i j known other stamp e f has has'. (only_item (first_known about) i known e).0 ∙ sym (only_item (first_known about) j other f).0;
        };
        lock = inl (record {
          word = refl;
          heap = heap;
          home = refl;
          last = subst (HoldsLast (made_of about).opening []) (sym is) (record { words = refl; commits = refl });
          nobody = λ i known e active. idle_not_active (ap (λ k. (pass_of k).state) (only_item (first_known about) i known e).1 ∙ active);
        });
      }

  pub new_pass : (table : TableId) (pass : TurnPass S) → pass.seat.table_id ≡ table → pass.seat.me ≡ (first_known about, []) → pass.heap ≡ None
      → IsPassOf allows good budget about table pass
  new_pass table pass seat me heap =
      let known : IsKnown good budget about first_pass =
      record { history_is = no_history budget made; plain = first_plain; whole = λ whole. record { front = refl; mine = refl } }
      in
      pass_knows (record { seat = seat; view = first_pass; is_known = known; doing = inl (record { idle = refl; me = me; no_heap = heap }) }) made

-- what the table is told is what the memory is made with
pub told_made : {S : Type 0} (about : About S) (sense : S) (first : Vec ℕ Global) (regions : Vec Region Global) (life : ℕ) → about.sense.value ≡ sense
    → about.opening.value ≡ first → about.regions.value ≡ regions → about.life ≡ life
    → made_of about ≡ made_with sense first.items regions.items life
told_made about sense first regions life a b c d = λ i. record { sense = a i; opening = (b i).items; regions = (c i).items; life = d i }
