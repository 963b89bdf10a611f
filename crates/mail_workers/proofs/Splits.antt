-- A pass that is split keeps the rule.
use Rattle.std.proofs.Common.{◌≡◌, ◌≢◌, ℕ, ◌++◌, List, [], ◌∷◌, refl, subst, set}
use mathlib.Core.Option.{some}
use lib.ListN.{get_elem?}
use Rattle.crossbeam_queue.specs.Fifo.{Forks}
use Rattle.tx_model.specs.ShareLaws.{SplitApart, SplitOthers, HalvesNormal, HalvesNotEmpty}
use Rattle.tx_model.proofs.lemmas.Holders.{SplitOrigin, as_before, kept, given, split_origin, names_split, all_split, once_split}
use Rattle.mail_workers.specs.declared.rule.JobView.{JobView}
use Rattle.mail_workers.specs.Jobs.{IsJobs, IsJobSeat, drawn_of, left_view, right_view, share_of}
use Rattle.mail_workers.proofs.Seats.{no_stamps}

module _ (halves_apart : SplitApart) (others_apart : SplitOthers) (normal : HalvesNormal) (not_empty : HalvesNotEmpty) (id : ℕ) (v : JobView)
    (some_name : v.share ≢ []) (items : List ℕ) (views : List JobView) (r : IsJobs items views) (at : get_elem? views id ≡ some v) where
  abbrev left : JobView
  left = left_view v

  abbrev right : JobView
  right = right_view v

  seat : IsJobSeat r.count r.total v
  seat = r.seats id v at

  seat_left : IsJobSeat r.count r.total left
  seat_left =
      record {
        drawn = seat.drawn;
        filled = λ named. seat.filled some_name;
        spent = λ none. absurd ((not_empty v.share some_name).0 none);
        joined = (normal v.share seat.apart seat.joined).0;
        apart = (halves_apart v.share seat.apart).0;
      }

  seat_right : IsJobSeat r.count r.total right
  seat_right =
      record {
        drawn = no_stamps r.count;
        filled = λ named. seat.filled some_name;
        spent = λ none. refl;
        joined = (normal v.share seat.apart seat.joined).1;
        apart = (halves_apart v.share seat.apart).1;
      }

  seats : (i : ℕ) (u : JobView) → get_elem? (set views id left ++ right ∷ []) i ≡ some u → IsJobSeat r.count r.total u
  seats i u e = go (split_origin views id v left right at i u e)
    where
      go : SplitOrigin views id v left right at i u → IsJobSeat r.count r.total u
      go (as_before ne below there) = r.seats i u there
      go (kept here is) = subst (IsJobSeat r.count r.total) is seat_left
      go (given last is) = subst (IsJobSeat r.count r.total) is seat_right

  pub split_keeps : IsJobs items (set views id left ++ right ∷ [])
  split_keeps =
      record {
        count = r.count;
        total = r.total;
        within = r.within;
        left = r.left;
        seats = seats;
        names = names_split views id v left right at share_of (halves_apart v.share seat.apart).2 (others_apart v.share) r.names;
        all = all_split views id v left right at drawn_of refl r.count r.all;
        once = once_split views id v left right at drawn_of refl refl r.once;
      }

pub splits : (halves_apart : SplitApart) (others_apart : SplitOthers) (normal : HalvesNormal) (not_empty : HalvesNotEmpty) (id : ℕ) (v : JobView)
    → v.share ≢ [] → Forks IsJobs id v (left_view v) (right_view v)
splits halves_apart others_apart normal not_empty id v some_name items views r at =
    split_keeps halves_apart others_apart normal not_empty id v some_name items views r at
