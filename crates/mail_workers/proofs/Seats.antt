-- What holds of the queue's passes.
use Rattle.std.proofs.Common.{◌≡◌, ◌≢◌, ℕ, ◌-◌, zero, suc, ◌++◌, List, [], ◌∷◌, Contains, refl, sym, ◌∙◌, ap, subst, arith}
use Rattle.std.specs.List.{range_with_len}
use mathlib.Core.Option.{some}
use lib.ListN.{get_elem?}
use Rattle.tx_model.specs.Pass.{AreStamps}
use Rattle.tx_model.specs.Shares.{Name}
use Rattle.tx_model.proofs.lemmas.Holders.{whole_has_all}
use Rattle.tx_model.proofs.lemmas.Lists.{only_item}
use Rattle.tx_model.proofs.lemmas.Stamps.{stamps_all}
use Rattle.mail_workers.specs.declared.rule.JobView.{JobView}
use Rattle.mail_workers.specs.Jobs.{IsJobs, IsJobSeat, IsWholeJob, HasRest, drawn_of, first_view, share_of}
use Rattle.mail_workers.proofs.Ranges.{range_parts}

pub no_stamps : (count : ℕ) → AreStamps count []
no_stamps count = record { rise = λ i j before below. absurd (omega (arith, below)); within = λ i below. absurd (omega (arith, below)) }

pub named_whole : (v : JobView) → IsWholeJob v → v.share ≢ []
named_whole v whole none = let e = sym whole ∙ none in cc

-- a whole pass has drawn all that was drawn
pub whole_drawn : (items : List ℕ) (views : List JobView) (r : IsJobs items views) (id : ℕ) (v : JobView) → get_elem? views id ≡ some v → IsWholeJob v
    → v.drawn ≡ range_with_len 1 r.count
whole_drawn items views r id v at whole =
    stamps_all r.count v.drawn (r.seats id v at).drawn
    (whole_has_all share_of views r.names id v at whole drawn_of r.count (λ i other e none. (r.seats i other e).spent none) r.all)

pub has_rest : (id : ℕ) (v : JobView) (items : List ℕ) (views : List JobView) → IsJobs items views → get_elem? views id ≡ some v → HasRest v items
has_rest id v items views r at whole =
    ap (λ drawn. drawn ++ items) (whole_drawn items views r id v at whole)
    ∙ ap (λ left. range_with_len 1 r.count ++ left) (r.left ∙ ap (λ n. range_with_len n (r.total - r.count)) (omega arith))
    ∙ range_parts 1 r.count (r.total - r.count)
    ∙ ap (range_with_len 1) (omega (arith, r.within, (r.seats id v at).filled (named_whole v whole)))

pub begins : IsJobs [] (first_view ∷ [])
begins =
    record {
      count = 0;
      total = 0;
      within = omega arith;
      left = refl;
      seats = λ i v e. subst (IsJobSeat 0 0) (only_item first_view i v e).1 (record {
        drawn = no_stamps 0;
        filled = λ named. refl;
        spent = λ none. refl;
        joined = λ letter name has other. lone letter name has;
        apart = ((λ other has. absurd (nothing other has)), tt);
      });
      names = λ i j v w e f apart. absurd (apart ((only_item first_view i v e).0 ∙ sym (only_item first_view j w f).0));
      all = λ number least most. absurd (omega (arith, least, most));
      once = λ i j v w number e f has also. (only_item first_view i v e).0 ∙ sym (only_item first_view j w f).0;
    }
  where
    nothing : (name : Name) → Contains [] name → ⊥
    nothing name (k, below, is) = omega (arith, below)

    lone : (letter : _) (name : Name) → Contains ([] ∷ []) (letter ∷ name) → ⊥
    lone letter name (zero, below, is) = cc
    lone letter name (suc k, below, is) = omega (arith, below)
