-- Two passes that are made one keep the rule.
use Rattle.std.proofs.Common.{◌≡◌, ◌≢◌, ℕ, List, [], Contains, refl, sym, ◌∙◌, subst, arith, set}
use mathlib.Core.Option.{some}
use lib.ListN.{get_elem?}
use Rattle.crossbeam_queue.specs.Fifo.{Merges}
use Rattle.tx_model.specs.Shares.{AreSharesApart}
use Rattle.tx_model.specs.ShareLaws.{JoinedApart, JoinedOthers, JoinedNormal, JoinedNotEmpty}
use Rattle.tx_model.specs.Laws.{MergedStamps, MergedMembers}
use Rattle.tx_model.proofs.lemmas.Holders.{JoinOrigin, as_it_was, made, emptied, join_origin, names_join, all_join, once_join}
use Rattle.tx_model.proofs.lemmas.Lists.{set_else}
use Rattle.mail_workers.specs.declared.rule.JobView.{JobView}
use Rattle.mail_workers.specs.Jobs.{IsJobs, IsJobSeat, both_views, drawn_of, share_of, spent_view}
use Rattle.mail_workers.proofs.Seats.{no_stamps}

module _ (within : JoinedApart) (others_apart : JoinedOthers) (normal : JoinedNormal) (not_empty : JoinedNotEmpty) (stamps : MergedStamps)
    (members : MergedMembers) where
  module _ (items : List ℕ) (views : List JobView) (r : IsJobs items views) (id from : ℕ) (old more : JobView) (at : get_elem? views id ≡ some old)
      (from_at : get_elem? views from ≡ some more) (differ : id ≢ from) (some_old : old.share ≢ []) where
    abbrev both : JobView
    both = both_views old more

    abbrev all_views : List JobView
    all_views = set (set views id both) from spent_view

    seat_old : IsJobSeat r.count r.total old
    seat_old = r.seats id old at

    seat_more : IsJobSeat r.count r.total more
    seat_more = r.seats from more from_at

    shares_apart : AreSharesApart old.share more.share
    shares_apart = r.names id from old more at from_at differ

    seat_both : IsJobSeat r.count r.total both
    seat_both =
        record {
          drawn = stamps r.count old.drawn more.drawn seat_old.drawn seat_more.drawn (λ x has has'. differ (r.once id from old more x at from_at has has'));
          filled = λ named. seat_old.filled some_old;
          spent = λ none. absurd ((not_empty old.share more.share).0 some_old none);
          joined = normal old.share more.share seat_old.joined;
          apart = within old.share more.share seat_old.apart seat_more.apart shares_apart;
        }

    seat_spent : IsJobSeat r.count r.total spent_view
    seat_spent =
        record {
          drawn = no_stamps r.count;
          filled = λ named. absurd (named refl);
          spent = λ none. refl;
          joined = λ letter name has. absurd (nothing _ has);
          apart = tt;
        }
      where
        nothing : {X : Type 0} (x : X) → Contains [] x → ⊥
        nothing x (k, below, is) = omega (arith, below)

    seats : (i : ℕ) (u : JobView) → get_elem? all_views i ≡ some u → IsJobSeat r.count r.total u
    seats i u e = go (join_origin views id from old more both spent_view at from_at differ i u e)
      where
        go : JoinOrigin views id from old more both spent_view at from_at differ i u → IsJobSeat r.count r.total u
        go (as_it_was a b there) = r.seats i u there
        go (made here is) = subst (IsJobSeat r.count r.total) is seat_both
        go (emptied here is) = subst (IsJobSeat r.count r.total) is seat_spent

    pub join_keeps : IsJobs items all_views
    join_keeps =
        record {
          count = r.count;
          total = r.total;
          within = r.within;
          left = r.left;
          seats = seats;
          names = names_join views id from old more both spent_view at from_at differ share_of refl
              (λ other apart apart'. others_apart old.share more.share other apart apart') r.names;
          all = all_join views id from old more both spent_view at from_at differ drawn_of (members old.drawn more.drawn) r.count r.all;
          once = once_join views id from old more both spent_view at from_at differ drawn_of (members old.drawn more.drawn) refl r.once;
        }

  pub joins : (id : ℕ) (v : JobView) (from : ℕ) (w : JobView) → v.share ≢ [] → Merges IsJobs id v from w (both_views v w) spent_view
  joins id v from w some_v items views r at ne from_at =
      join_keeps items views r id from v w at (sym (set_else views id from (both_views v w) ne) ∙ from_at) (λ same. ne (sym same)) some_v
