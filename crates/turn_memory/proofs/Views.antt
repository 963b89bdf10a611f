-- What is known of a pass by itself as it changes, and of the history that it knows.
use Rattle.std.proofs.Common.{◌≡◌, ◌≢◌, ℕ, suc, ◌+◌, ◌≤◌, ◌++◌, List, [], ◌∷◌, length, sym, ◌∙◌, refl, ap, subst, arith, inl, inr, Contains}
use Rattle.std.specs.List.{range_with_len}
use Rattle.std.proofs.lemmas.Bool.{cond-true, cond-false, lt-ltb, le-ltb, cases_lt}
use Rattle.std.proofs.lemmas.List.{length_push}
use Rattle.std.proofs.lemmas.Option.{slice_get_within}
use Rattle.tx_model.specs.declared.history.Commit.{Commit}
use Rattle.tx_model.specs.declared.pass.PassState.TheVariants.{Idle, Active, Stamped}
use Rattle.tx_model.specs.declared.view.PassView.{PassView}
use Rattle.tx_model.specs.Memory.{Agrees, after}
use Rattle.tx_model.specs.History.{IsBeginning, state_at}
use Rattle.tx_model.specs.Attempt.{commit_of}
use Rattle.tx_model.specs.Calls.{left_of, right_of}
use Rattle.tx_model.specs.Made.{Made}
use Rattle.tx_model.specs.Pass.{AreStamps, IsWhole, KnowsAll}
use Rattle.tx_model.specs.Shares.{AreSharesApart}
use Rattle.tx_model.specs.ShareLaws.{SplitApart, SplitOthers, HalvesNormal, HalvesNotEmpty, JoinedApart, JoinedOthers, JoinedNormal, JoinedNotEmpty}
use Rattle.tx_model.proofs.lemmas.Histories.{beginning_length, entry_stays, state_stays, legal_more, writers_more, rules_more, good_more, states_more, state_more}
use Rattle.tx_model.proofs.lemmas.Stamps.{range_more, stamps_more, stamps_wider, merged_stamps}
use Rattle.turn_memory.specs.declared.table.About.{About}
use Rattle.turn_memory.specs.Heap.{HeapView}
use Rattle.turn_memory.specs.Lock.{GoodOf, BudgetOf, IsHistoryOf, IsKnown, IsPlain, HoldsLast, LeadsOn, NoneSealed, attempt_on, made_of, active_with, idle_again, with_commit, both_passes, longer, shorter}

pub idle_not_active : Idle ≢ Active
idle_not_active e = cc

pub idle_not_stamped : Idle ≢ Stamped
idle_not_stamped e = cc

-- ---- a pass by itself
pub no_stamps : (count : ℕ) → AreStamps count []
no_stamps count = record { rise = λ i j before below. absurd (omega (arith, below)); within = λ i below. absurd (omega (arith, below)) }

pub plain_active : (history : List Commit) (pass : PassView) → IsPlain pass → length pass.history ≤ length history → IsPlain (active_with history pass)
plain_active history pass plain long = record {
  front = refl;
  mine = stamps_wider _ _ _ long plain.mine;
  owned = plain.owned;
  not_stamped = λ e. cc;
  names = plain.names;
}

pub plain_idle : (pass : PassView) → IsPlain pass → IsPlain (idle_again pass)
plain_idle pass plain = record { front = plain.front; mine = plain.mine; owned = plain.owned; not_stamped = idle_not_stamped; names = plain.names }

module _ (heap : HeapView) (pass : PassView) where
  pub grown_length : length (with_commit heap pass).history ≡ length pass.history + 1
  grown_length = length_push pass.history _

  pub plain_published : IsPlain pass → IsPlain (with_commit heap pass)
  plain_published plain = record {
    front = sym grown_length;
    mine = rw grown_length (stamps_more (length pass.history) pass.mine plain.mine);
    owned = plain.owned;
    not_stamped = idle_not_stamped;
    names = plain.names;
  }

  pub whole_published : (IsWhole pass → KnowsAll pass) → IsWhole (with_commit heap pass) → KnowsAll (with_commit heap pass)
  whole_published knows whole =
      let long : suc (length pass.history) ≡ length (with_commit heap pass).history = omega (arith, grown_length) in
      record {
        front = sym grown_length;
        mine =
            ap (λ mine. mine ++ (length pass.history + 1) ∷ []) (knows whole).mine
            ∙ ap (λ n. range_with_len 1 (length pass.history) ++ n ∷ []) (omega arith)
            ∙ sym (range_more 1 (length pass.history)) ∙ ap (range_with_len 1) long;
      }

-- what is known of the halves of a share
pub record HalfLaws : Type 0 where
  pub apart : SplitApart
  pub others : SplitOthers
  pub normal : HalvesNormal
  pub not_empty : HalvesNotEmpty

module _ (law : HalfLaws) (pass : PassView) (plain : IsPlain pass) where
  pub plain_left : IsPlain (left_of pass)
  plain_left = record {
    front = plain.front;
    mine = plain.mine;
    owned = plain.owned;
    not_stamped = plain.not_stamped;
    names = record {
      some = (law.not_empty pass.share plain.names.some).0;
      joined = (law.normal pass.share plain.names.apart plain.names.joined).0;
      apart = (law.apart pass.share plain.names.apart).0;
    };
  }

  pub plain_right : IsPlain (right_of pass)
  plain_right = record {
    front = plain.front;
    mine = no_stamps (length pass.history);
    owned = refl;
    not_stamped = idle_not_stamped;
    names = record {
      some = (law.not_empty pass.share plain.names.some).1;
      joined = (law.normal pass.share plain.names.apart plain.names.joined).1;
      apart = (law.apart pass.share plain.names.apart).1;
    };
  }

-- ---- two passes as one
-- what holds of two histories, by which of them is the longer one
pub by_which : (P : List Commit → List Commit → Type 0) (history other : List Commit) → (length history ≤ length other → P other history)
    → (length other ≤ length history → P history other) → P (longer history other) (shorter history other)
by_which P history other less more =
    elim (cases_lt (length history) (length other)) [
      | inl before ↦ rw (cond-true _ other history (lt-ltb _ _ before), cond-true _ history other (lt-ltb _ _ before)) (less (omega (arith, before)))
      | inr late ↦ rw (cond-false _ other history (le-ltb _ _ late), cond-false _ history other (le-ltb _ _ late)) (more late)
    ]

-- what is known of two shares that are joined
pub record JoinLaws : Type 0 where
  pub apart : JoinedApart
  pub others : JoinedOthers
  pub normal : JoinedNormal
  pub not_empty : JoinedNotEmpty

pub plain_both : JoinLaws → (pass other : PassView) → IsPlain pass → IsPlain other → AreSharesApart pass.share other.share
    → ((stamp : ℕ) → Contains pass.mine stamp → Contains other.mine stamp → ⊥) → IsPlain (both_passes pass other)
plain_both law pass other one two shares once =
    let longest = by_which (λ history less. (length pass.history ≤ length history) × (length other.history ≤ length history)) pass.history other.history
    (λ len. (len, omega arith)) (λ len. (omega arith, len)) in
    record {
      front = refl;
      mine = merged_stamps _ pass.mine other.mine (stamps_wider _ _ _ longest.0 one.mine) (stamps_wider _ _ _ longest.1 two.mine) once;
      owned = ap (λ owned. owned ++ other.owned) one.owned ∙ two.owned;
      not_stamped = one.not_stamped;
      names = record {
        some = (law.not_empty pass.share other.share).0 one.names.some;
        joined = law.normal pass.share other.share one.names.joined;
        apart = law.apart pass.share other.share one.names.apart two.names.apart shares;
      };
    }

-- ---- histories
module _ {S : Type 0} {good : GoodOf S} {budget : BudgetOf S} (made : Made S) where
  -- what holds of a history of this memory holds of its beginnings
  pub history_beginning : (earlier later : List Commit) → IsBeginning earlier later → IsHistoryOf good budget made later → IsHistoryOf good budget made earlier
  history_beginning earlier later beginning h =
      let long = beginning_length earlier later beginning in
      let stays = λ (k : ℕ) (within : k ≤ length earlier). state_stays made.opening earlier later k beginning within in
      record {
        legal = λ k commit there.
            let below = slice_get_within earlier k commit there in
            subst (Agrees commit.reads) (stays k (omega (arith, below))) (h.legal k commit (entry_stays earlier later k commit beginning there));
        writers = λ k commit there. h.writers k commit (entry_stays earlier later k commit beginning there);
        rules = λ k commit there. h.rules k commit (entry_stays earlier later k commit beginning there);
        good_states = record {
          states = λ k within. subst (good made.sense made.opening) (stays k within) (h.good_states.states k (omega (arith, within, long)));
          falls = λ k below.
              let same = λ (n : ℕ) (within : n ≤ length earlier). ap (budget made.sense) (stays n within) in
              omega (arith, h.good_states.falls k (omega (arith, below, long)), same k (omega (arith, below)), same (k + 1) (omega (arith, below)));
        };
        lasts = omega (arith, h.lasts, long);
        unsealed = λ k within. subst (NoneSealed made.regions) (stays k within) (h.unsealed k (omega (arith, within, long)));
      }

  -- with the commit of a heap
  module _ (pass : PassView) (heap : HeapView) (leads : LeadsOn good budget made pass.history heap) where
    abbrev commit : Commit
    commit = commit_of (attempt_on pass.history heap) []

    pub history_published : IsHistoryOf good budget made pass.history → IsHistoryOf good budget made (with_commit heap pass).history
    history_published was =
        let sense = made.sense in
        record {
          legal = legal_more made.opening pass.history commit was.legal leads.reads;
          writers = writers_more made.opening pass.history commit was.writers (leads.writes, leads.apart);
          rules = rules_more made.opening pass.history commit made.regions was.rules leads.follows;
          good_states = good_more made.opening pass.history commit (good sense made.opening) (budget sense) was.good_states
              (rw leads.words at leads.is_good) (rw leads.words at leads.budget_falls);
          lasts = omega (arith, leads.room, grown_length heap pass);
          unsealed = states_more made.opening pass.history commit (NoneSealed made.regions) was.unsealed (rw leads.words at leads.unsealed);
        }

    pub holds_published : HoldsLast made.opening (with_commit heap pass).history heap
    holds_published = record {
      words =
          ap (λ words. after words heap.writes) leads.words
          ∙ sym (ap (state_at made.opening (with_commit heap pass).history) (grown_length heap pass) ∙ state_more made.opening pass.history commit);
      commits = leads.commits ∙ sym (grown_length heap pass);
    }

module _ {S : Type 0} {good : GoodOf S} {budget : BudgetOf S} {about : About S} where
  pub known_published : (pass : PassView) (heap : HeapView) → LeadsOn good budget (made_of about) pass.history heap → IsKnown good budget about pass
      → IsKnown good budget about (with_commit heap pass)
  known_published pass heap leads known = record {
    history_is = history_published (made_of about) pass heap leads known.history_is;
    plain = plain_published heap pass known.plain;
    whole = whole_published heap pass known.whole;
  }
