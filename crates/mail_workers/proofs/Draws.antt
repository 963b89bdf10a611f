-- A pass may take the number at the front.
use Rattle.std.proofs.Common.{◌≡◌, ◌≢◌, ℕ, ◌+◌, ◌-◌, ◌≤◌, ◌++◌, List, [], ◌∷◌, Contains, refl, sym, ◌∙◌, ap, subst, arith, set}
use Rattle.std.specs.List.{range_with_len}
use mathlib.Core.Option.{some}
use lib.ListN.{get_elem?}
use Rattle.crossbeam_queue.specs.Fifo.{Pops}
use Rattle.tx_model.specs.Pass.{AreStamps}
use Rattle.tx_model.proofs.lemmas.Holders.{all_more, each_view, names_kept, once_more}
use Rattle.tx_model.proofs.lemmas.Stamps.{stamps_more, stamps_wider, stamps_within}
use Rattle.mail_workers.specs.declared.rule.JobView.{JobView}
use Rattle.mail_workers.specs.Jobs.{IsJobs, IsJobSeat, Drew, drawn_of, share_of, with_drawn}
use Rattle.mail_workers.proofs.Ranges.{First, range_first}

module _ (id : ℕ) (v : JobView) (named : v.share ≢ []) (number : ℕ) (items : List ℕ) (views : List JobView) (r : IsJobs (number ∷ items) views)
    (at : get_elem? views id ≡ some v) where
  abbrev w : JobView
  w = with_drawn v number

  f : First number items (r.count + 1) (r.total - r.count)
  f = range_first number items (r.count + 1) (r.total - r.count) r.left

  seat : IsJobSeat r.count r.total v
  seat = r.seats id v at

  below_total : r.count + 1 ≤ v.total
  below_total = omega (arith, f.count_is, seat.filled named)

  drawn : AreStamps (r.count + 1) (v.drawn ++ number ∷ [])
  drawn = subst (λ k. AreStamps (r.count + 1) (v.drawn ++ k ∷ [])) (sym f.here) (stamps_more r.count v.drawn seat.drawn)

  more : w.drawn ≡ v.drawn ++ (r.count + 1) ∷ []
  more = ap (λ k. v.drawn ++ k ∷ []) f.here

  wider : (i : ℕ) (u : JobView) → get_elem? views i ≡ some u → IsJobSeat (r.count + 1) r.total u
  wider i u e =
      let s = r.seats i u e in
      record {
        drawn = stamps_wider r.count (r.count + 1) u.drawn (omega arith) s.drawn;
        filled = s.filled;
        spent = s.spent;
        joined = s.joined;
        apart = s.apart;
      }

  mine : IsJobSeat (r.count + 1) r.total w
  mine = record { drawn = drawn; filled = seat.filled; spent = λ none. absurd (named none); joined = seat.joined; apart = seat.apart }

  within : (i : ℕ) (u : JobView) (other : ℕ) → get_elem? views i ≡ some u → Contains u.drawn other → other ≤ r.count
  within i u other e has = (stamps_within r.count u.drawn (r.seats i u e).drawn other has).1

  pub drawn_kept : IsJobs items (set views id w)
  drawn_kept =
      record {
        count = r.count + 1;
        total = r.total;
        within = omega (arith, f.count_is);
        left = f.more ∙ ap (range_with_len (r.count + 1 + 1)) (omega (arith, f.count_is));
        seats = each_view views id v w at (λ _ u. IsJobSeat (r.count + 1) r.total u) mine wider;
        names = names_kept views id v w at share_of refl r.names;
        all = all_more views id v w at drawn_of r.count more r.all;
        once = once_more views id v w at drawn_of r.count more within r.once;
      }

  pub draw_keeps : (w : JobView) × IsJobs items (set views id w) × Drew v number w
  draw_keeps = (
    w,
    drawn_kept,
    record {
      now = refl;
      least = omega (arith, f.here);
      most = omega (arith, f.here, below_total);
      rising = stamps_wider (r.count + 1) v.total (v.drawn ++ number ∷ []) below_total drawn;
    },
  )

pub draws : (id : ℕ) (v : JobView) → v.share ≢ [] → Pops IsJobs id v (Drew v)
draws id v named number items views r at = draw_keeps id v named number items views r at
