-- A seat that is split, and two seats that are made one, keep the rule.
use Rattle.std.proofs.Common.{◌≡◌, ◌≢◌, ℕ, List, ◌∷◌, ◌++◌, [], length, Option, Some, None, set, refl, sym, ◌∙◌, subst}
use mathlib.Core.Option.{some}
use lib.ListN.{get_elem?}
use Rattle.atomic_table.specs.Table.{State, Splits, Joins}
use Rattle.tx_model.specs.declared.pass.PassState.TheVariants.{Idle}
use Rattle.tx_model.specs.declared.view.PassView.{PassView}
use Rattle.tx_model.specs.Calls.{left_of, right_of}
use Rattle.tx_model.proofs.lemmas.Holders.{SplitOrigin, as_before, kept, given, split_origin, split_other, names_split, all_split, once_split, JoinOrigin, as_it_was, made, emptied, join_origin, join_other, names_join, all_join, once_join}
use Rattle.tx_model.proofs.lemmas.Lists.{set_else}
use Rattle.tx_model.proofs.lemmas.Stamps.{merged_members}
use Rattle.turn_memory.specs.declared.table.About.{About}
use Rattle.turn_memory.specs.declared.table.Knowledge.{Knowledge}
use Rattle.turn_memory.specs.Heap.{HeapView}
use Rattle.turn_memory.specs.Lock.{GoodOf, BudgetOf, IsTable, IsSeat, IsPlain, AreLearned, share_of, mine_of, left_known, right_known, both_known}
use Rattle.turn_memory.proofs.Steps.{Came, stayed, changed, IsSeated, IsChange, state_of, not_idle, views_keep}
use Rattle.turn_memory.proofs.Views.{idle_not_active, HalfLaws, plain_left, plain_right, JoinLaws, plain_both, by_which}

module _ {S : Type 0} {good : GoodOf S} {budget : BudgetOf S} {about : About S} {s : State (Option HeapView) (Option (Knowledge S))}
    (r : IsTable good budget about s) (id : ℕ) {old : Knowledge S} (at : get_elem? s.views id ≡ some (Some old)) (idle : old.pass.state ≡ Idle) where
  seat : IsSeat about r.history old
  seat = r.seats id old at

  -- another idle view at that index
  here : (i : ℕ) {new known : Option (Knowledge S)} → new ≡ known → state_of new ≡ Idle → IsSeated about r.history new → Came about r.history s.views i known
  here i is still known_is = subst (Came about r.history s.views i) is (changed still known_is)

  -- the views alone changed
  keeps_table : (views : List (Option (Knowledge S))) → IsChange r views
      → IsTable good budget about (record { words = s.words; homes = s.homes; views = views })
  keeps_table views change = views_keep r s.words views change refl (λ free. free) (λ taken. taken)

  -- ---- one is split
  module _ (law : HalfLaws) where
    abbrev left : Option (Knowledge S)
    left = left_known (Some old)

    abbrev right : Option (Knowledge S)
    right = right_known (Some old)

    seat_half : (half : PassView) → half.history ≡ old.pass.history → half.state ≡ Idle → IsPlain half
        → IsSeat about r.history (record { about = old.about; pass = half; other = old.other })
    seat_half half history still plain = record {
      told = seat.told;
      learned = rw history seat.learned;
      plain = plain;
      active = λ is. absurd (idle_not_active (sym still ∙ is));
    }

    came : (i : ℕ) (known : Option (Knowledge S)) → SplitOrigin s.views id (Some old) left right at i known → Came about r.history s.views i known
    came i known (as_before ne below there) = stayed there
    came i known (kept at_id is) = here i is idle (seat_half (left_of old.pass) refl idle (plain_left law old.pass seat.plain))
    came i known (given last is) = here i is refl (seat_half (right_of old.pass) refl refl (plain_right law old.pass seat.plain))

    pub split_keeps : IsTable good budget about (record { words = s.words; homes = s.homes; views = set s.views id left ++ right ∷ [] })
    split_keeps = keeps_table _ (record {
      came = λ i known e. came i known (split_origin s.views id (Some old) left right at i known e);
      busy = λ i known e active. split_other s.views id (Some old) left right at i known (not_idle s.views at idle i known e active) e;
      shares = record {
        names = names_split s.views id (Some old) left right at share_of (law.apart old.pass.share seat.plain.names.apart).2
            (law.others old.pass.share) r.shares.names;
        all = all_split s.views id (Some old) left right at mine_of refl (length r.history) r.shares.all;
        once = once_split s.views id (Some old) left right at mine_of refl refl r.shares.once;
      };
    })

  -- ---- two are made one
  module _ (law : JoinLaws) (from : ℕ) {more : Knowledge S} (ne : from ≢ id) (from_at : get_elem? s.views from ≡ some (Some more))
      (idle_more : more.pass.state ≡ Idle) where
    abbrev both : Option (Knowledge S)
    both = both_known (Some old) (Some more)

    differ : id ≢ from
    differ same = ne (sym same)

    seat_more : IsSeat about r.history more
    seat_more = r.seats from more from_at

    seat_both : IsSeated about r.history both
    seat_both = record {
      told = seat.told;
      learned = by_which (AreLearned r.history) old.pass.history more.pass.history
          (λ len. record { known = seat_more.learned.known; other = seat.learned.known; shorter = len })
          (λ len. record { known = seat.learned.known; other = seat_more.learned.known; shorter = len });
      plain = plain_both law old.pass more.pass seat.plain seat_more.plain (r.shares.names id from (Some old) (Some more) at from_at differ)
          (λ stamp has has'. differ (r.shares.once id from (Some old) (Some more) stamp at from_at has has'));
      active = λ active. absurd (idle_not_active (sym idle ∙ active));
    }

    came_joined : (i : ℕ) (known : Option (Knowledge S)) → JoinOrigin s.views id from (Some old) (Some more) both None at from_at differ i known
        → Came about r.history s.views i known
    came_joined i known (as_it_was a b there) = stayed there
    came_joined i known (made at_id is) = here i is idle seat_both
    came_joined i known (emptied at_from is) = here i is refl tt

    pub join_keeps : IsTable good budget about (record { words = s.words; homes = s.homes; views = set (set s.views id both) from None })
    join_keeps =
        let members = merged_members old.pass.mine more.pass.mine in
        keeps_table _ (record {
          came = λ i known e. came_joined i known (join_origin s.views id from (Some old) (Some more) both None at from_at differ i known e);
          busy = λ i known e active.
              join_other s.views id from (Some old) (Some more) both None at from_at differ i known (not_idle s.views at idle i known e active)
              (not_idle s.views from_at idle_more i known e active) e;
          shares = record {
            names = names_join s.views id from (Some old) (Some more) both None at from_at differ share_of refl (law.others old.pass.share more.pass.share)
                r.shares.names;
            all = all_join s.views id from (Some old) (Some more) both None at from_at differ mine_of members (length r.history) r.shares.all;
            once = once_join s.views id from (Some old) (Some more) both None at from_at differ mine_of members refl r.shares.once;
          };
        })

-- ---- what the seats may do
module _ {S : Type 0} (good : GoodOf S) (budget : BudgetOf S) (about : About S) (id : ℕ) (old : Knowledge S)
    (idle : old.pass.state ≡ Idle) where
  pub splits_seat : HalfLaws → (known : Option (Knowledge S)) → known ≡ Some old
      → Splits (IsTable good budget about) id known (left_known known) (right_known known)
  splits_seat law known is = rw is (λ s r at. split_keeps r id at idle law)

  pub joins_seats : JoinLaws → (from : ℕ) (more : Knowledge S) → more.pass.state ≡ Idle → (known other : Option (Knowledge S)) → known ≡ Some old
      → other ≡ Some more → Joins (IsTable good budget about) id known from other (both_known known other) None
  joins_seats law from more idle_more known other is is' =
      rw (is, is') (λ s r at ne from_at. join_keeps r id at idle law from ne
      (sym (set_else s.views id from (both_known (Some old) (Some more)) ne) ∙ from_at) idle_more)
