-- What a raise that was tried until it was done leaves of the memory.
use Rattle.std.proofs.Common.{◌≡◌, ℕ, ◌+◌, ◌-◌, refl, ◌<◌, List, Some, sym, ◌∙◌, ap, subst, arith, inl, inr}
use Rattle.std.specs.Prelude.{slice_get, filter, map, not, Result, Ok, Err, IfOk, IfErr, [], ◌∷◌, ◌++◌}
use Rattle.std.proofs.lemmas.List.{append-nil}
use Rattle.tx_model.specs.declared.pass.Receipt.{Receipt}
use Rattle.tx_model.specs.declared.history.Commit.{Commit}
use Rattle.tx_model.specs.declared.view.Attempt.{Attempt}
use Rattle.tx_model.specs.declared.view.Owned.{Owned}
use Rattle.tx_model.specs.declared.view.PassView.{PassView}
use Rattle.tx_model.specs.History.{IsLegal, state_at}
use Rattle.tx_model.specs.Attempt.{commit_of, has_region, just_sealed}
use Rattle.tx_model.specs.Tries.{Done, NotDone}
use Rattle.tx_model.specs.declared.trying.BodyStop.{BodyStop}
use Rattle.tx_model.specs.declared.trying.BodyStop.TheVariants.{Worn, Refused}
use Rattle.tx_uses.specs.declared.raise.RaiseRefusal.{RaiseRefusal}
use Rattle.tx_uses.specs.Raise.{Raises, DidRaise}
use Rattle.tx_uses.specs.Raised.{IsRaised, Raised}
use Rattle.tx_model.proofs.lemmas.States.{state_next}
use Rattle.tx_uses.proofs.RaiseSteps.{commit_raises}

-- the state after the commit has the word raised
stamp_raises : (opening : List ℕ) (history : List Commit) (word stamp : ℕ) (attempt : Attempt) (owned : List Owned) → 0 < word → 0 < stamp
    → IsLegal opening history → Raises word attempt
    → slice_get history (stamp - 1) ≡ Some (commit_of attempt owned) → IsRaised word (state_at opening history (stamp - 1)) (state_at opening history stamp)
stamp_raises opening history word stamp attempt owned other some legal raises there =
    let is : (stamp - 1) + 1 ≡ stamp = omega arith in
    let before = state_at opening history (stamp - 1) in
    let next = state_next opening history (stamp - 1) (commit_of attempt owned) there in
    subst (IsRaised word before) (sym next ∙ ap (state_at opening history) is)
    (commit_raises before word attempt owned other raises (legal (stamp - 1) (commit_of attempt owned) there))

pub raised_of_done : (opening : List ℕ) (word : ℕ) (old new : PassView) (receipt : Receipt) → 0 < word → IsLegal opening new.history
    → Done (DidRaise word) opening old new receipt → Raised opening word old new receipt
raised_of_done opening word old new receipt other legal done =
    elim done.committed.received [
      | inl (wrote, some, w) ↦
          record {
            wrote = wrote;
            history = w.history;
            later = w.later;
            complete = w.complete;
            raised = stamp_raises opening new.history word receipt.stamp done.attempt old.owned other (omega (arith, w.later)) legal done.meaning w.there;
            mine = w.mine;
          }
      | inr (wrote, none, r) ↦ let e = sym none ∙ done.meaning.writes in absurd (cc)
    ]

-- ---- what the pass owns
none_given : (owned : List Owned) → filter (λ (o : Owned). not (has_region [] o.region)) owned ≡ owned
none_given [] = refl
none_given (o ∷ owned) = ap (λ rest. o ∷ rest) (none_given owned)

owned_of_done : (opening : List ℕ) (word : ℕ) (old new : PassView) (receipt : Receipt) → Done (DidRaise word) opening old new receipt → new.owned ≡ old.owned
owned_of_done opening word old new receipt done =
    elim done.committed.received [
      | inl (wrote, some, w) ↦
          let memory = state_at opening new.history receipt.stamp in
          w.owned
          ∙ ap (λ published. filter (λ (o : Owned). not (has_region published o.region)) old.owned ++ map (just_sealed memory) done.attempt.sealed)
          done.meaning.no_region.1
          ∙ ap (λ sealed. filter (λ (o : Owned). not (has_region [] o.region)) old.owned ++ map (just_sealed memory) sealed) done.meaning.no_region.0
          ∙ append-nil _ ∙ none_given old.owned
      | inr (wrote, none, r) ↦ r.later.owned
    ]

owned_of_not_done : (opening : List ℕ) (life word : ℕ) (old new : PassView) (stop : BodyStop RaiseRefusal) → NotDone (DidRaise word) opening life old new stop
    → new.owned ≡ old.owned
owned_of_not_done opening life word old new (Worn index) n = n.worn.ended.later.owned
owned_of_not_done opening life word old new (Refused refusal) n = n.ended.later.owned

pub owned_kept : (opening : List ℕ) (life word : ℕ) (old new : PassView) (result : Result Receipt (BodyStop RaiseRefusal))
    → IfOk result (λ receipt. Done (DidRaise word) opening old new receipt) → IfErr result (λ stop. NotDone (DidRaise word) opening life old new stop)
    → new.owned ≡ old.owned
owned_kept opening life word old new (Ok receipt) done none = owned_of_done opening word old new receipt done
owned_kept opening life word old new (Err stop) none not_done = owned_of_not_done opening life word old new stop not_done
