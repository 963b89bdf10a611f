-- A whole pass may put in the next number.
use Rattle.std.proofs.Common.{◌≡◌, ℕ, suc, ◌+◌, ◌-◌, ◌<◌, ◌++◌, List, [], ◌∷◌, length, refl, sym, ◌∙◌, ap, subst, arith, inl, inr, set}
use Rattle.std.specs.List.{range_with_len}
use Rattle.std.proofs.lemmas.List.FromFn.{length-range_with_len}
use mathlib.Core.Option.{some}
use lib.ListN.{get_elem?}
use Rattle.crossbeam_queue.specs.Fifo.{Pushes, Held}
use Rattle.tx_model.proofs.lemmas.Holders.{all_kept, names_kept, once_kept, whole_alone}
use Rattle.tx_model.proofs.lemmas.Lists.{at_set}
use Rattle.tx_model.proofs.lemmas.Stamps.{range_more}
use Rattle.mail_workers.specs.declared.rule.JobView.{JobView}
use Rattle.mail_workers.specs.Jobs.{IsJobs, IsJobSeat, IsWholeJob, HasRest, drawn_of, share_of, with_pushed}
use Rattle.mail_workers.proofs.Seats.{named_whole}

module _ (id : ℕ) (v : JobView) (number : ℕ) (whole : IsWholeJob v) (next : number ≡ v.total + 1) (items : List ℕ) (views : List JobView)
    (r : IsJobs items views) (at : get_elem? views id ≡ some v) where
  abbrev w : JobView
  w = with_pushed v

  total_is : v.total ≡ r.total
  total_is = (r.seats id v at).filled (named_whole v whole)

  seats : (i : ℕ) (u : JobView) → get_elem? (set views id w) i ≡ some u → IsJobSeat r.count (r.total + 1) u
  seats i u e =
      elim (at_set views id i w u e) [
        | inl (here, is) ↦
            let s = r.seats id v at in
            subst (IsJobSeat r.count (r.total + 1)) is
            (record { drawn = s.drawn; filled = λ named. ap (λ k. k + 1) total_is; spent = s.spent; joined = s.joined; apart = s.apart })
        | inr (apart, there) ↦
            let s = r.seats i u there in
            record {
              drawn = s.drawn;
              filled = λ named. absurd (named (whole_alone share_of views r.names id v at whole i u there apart));
              spent = s.spent;
              joined = s.joined;
              apart = s.apart;
            }
      ]

  left : items ++ number ∷ [] ≡ range_with_len (r.count + 1) (r.total + 1 - r.count)
  left =
      let last : number ≡ r.count + 1 + (r.total - r.count) = omega (arith, next, total_is, r.within) in
      let many : suc (r.total - r.count) ≡ r.total + 1 - r.count = omega (arith, r.within) in
      ap (λ l. l ++ number ∷ []) r.left
      ∙ ap (λ (k : ℕ). range_with_len (r.count + 1) (r.total - r.count) ++ k ∷ []) last
      ∙ sym (range_more (r.count + 1) (r.total - r.count))
      ∙ ap (range_with_len (r.count + 1)) many

  pub filled : IsJobs (items ++ number ∷ []) (set views id w)
  filled =
      record {
        count = r.count;
        total = r.total + 1;
        within = omega (arith, r.within);
        left = left;
        seats = seats;
        names = names_kept views id v w at share_of refl r.names;
        all = all_kept views id v w at drawn_of r.count (λ other has. has) r.all;
        once = once_kept views id v w at drawn_of refl r.once;
      }

  pub fill_keeps : (w : JobView) × IsJobs (items ++ number ∷ []) (set views id w) × (w ≡ with_pushed v)
  fill_keeps = (w, filled, refl)

pub fills : (n id : ℕ) (v : JobView) (number : ℕ) → IsWholeJob v → number ≡ v.total + 1 → Pushes IsJobs n id v number (λ w. w ≡ with_pushed v)
fills n id v number whole next items views _ r at = fill_keeps id v number whole next items views r at

-- a queue that so many were put into, and nothing drawn from, is not full
pub not_full : (v : JobView) (number room : ℕ) → v ≡ record { total = number; drawn = []; share = [] ∷ [] } → number < room → Held room (HasRest v) → ⊥
not_full v number room is less (items, full, rest) =
    let all : [] ++ items ≡ range_with_len 1 number = subst (λ (u : JobView). IsWholeJob u → u.drawn ++ items ≡ range_with_len 1 u.total) is rest refl in
    omega (arith, less, full, ap length all, length-range_with_len 1 number)
