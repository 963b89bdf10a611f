-- What is left of a pass that was split, and joined again after the further pass raised a word.
use Rattle.std.proofs.Common.{◌≡◌, ℕ, ◌-◌, ◌<◌, ◌≤◌, ◌++◌, List, [], ◌∷◌, Some, length, sym, ◌∙◌, ap, subst, arith}
use Rattle.std.specs.Prelude.{slice_get}
use Rattle.tx_model.specs.declared.pass.Receipt.{Receipt}
use Rattle.tx_model.specs.declared.trying.BodyStop.{BodyStop}
use Rattle.tx_model.specs.declared.trying.BodyStop.TheVariants.{Worn, Refused}
use Rattle.tx_model.specs.declared.view.PassView.{PassView}
use Rattle.tx_model.specs.History.{IsBeginning, state_at}
use Rattle.tx_model.specs.Pass.{AreStamps}
use Rattle.tx_model.specs.Laws.{StateStays}
use Rattle.tx_model.specs.Calls.{IsLater, Joined, merged, left_of, right_of}
use Rattle.tx_uses.specs.declared.raise.RaiseRefusal.{RaiseRefusal}
use Rattle.tx_uses.specs.declared.raise.RaiseRefusal.TheVariants.{Spent, Full}
use Rattle.tx_uses.specs.Raised.{IsRaised, Raised, HadValue, NotRaised}
use Rattle.tx_model.proofs.lemmas.Histories.{beginning_then, beginning_length}
use Rattle.tx_model.proofs.lemmas.Stamps.{placed_last}

module _ (stays : StateStays) where
  -- what was the case in a state stays so
  pub raised_stays : (opening : List ℕ) (word : ℕ) (earlier later : _) (stamp : ℕ) → IsBeginning earlier later → stamp ≤ length earlier
      → IsRaised word (state_at opening earlier (stamp - 1)) (state_at opening earlier stamp)
      → IsRaised word (state_at opening later (stamp - 1)) (state_at opening later stamp)
  raised_stays opening word earlier later stamp beginning happened raised =
      subst (λ before. IsRaised word before (state_at opening later stamp)) (sym (stays opening earlier later (stamp - 1) beginning (omega arith)))
      (subst (λ after. IsRaised word (state_at opening earlier (stamp - 1)) after) (sym (stays opening earlier later stamp beginning happened)) raised)

  -- the pass went on
  pub raised_then : {opening : List ℕ} {word : ℕ} {old mid new : PassView} {receipt : Receipt} → mid.front ≤ length mid.history
      → Raised opening word old mid receipt → IsLater mid new → Raised opening word old new receipt
  raised_then {opening} {word} {old} {mid} {new} {receipt} known r p =
      record {
        wrote = r.wrote;
        history = beginning_then _ _ _ r.history p.history;
        later = r.later;
        complete = omega (arith, r.complete, p.front);
        raised = raised_stays opening word mid.history new.history receipt.stamp p.history (omega (arith, r.complete, known)) r.raised;
        mine = p.mine ∙ r.mine;
      }

  -- the further pass came back
  module _ (opening : List ℕ) (old : PassView) {left given other new : PassView} (kept : left ≡ left_of old) (gave : given ≡ right_of old)
      (joined : Joined left other new) where
    pub raised_apart : {word : ℕ} {receipt : Receipt} → AreStamps (length old.history) old.mine → other.front ≤ length other.history
        → Raised opening word given other receipt → Raised opening word old new receipt
    raised_apart {word} {receipt} stamps known r =
        let later : length old.history < receipt.stamp = omega (arith, r.later, ap (λ (view : PassView). length view.history) gave) in
        record {
          wrote = r.wrote;
          history = subst (λ (view : PassView). IsBeginning view.history new.history) kept joined.history;
          later = later;
          complete = omega (arith, r.complete, joined.front);
          raised = raised_stays opening word other.history new.history receipt.stamp joined.other_history (omega (arith, r.complete, known)) r.raised;
          mine =
              joined.mine
              ∙ ap (λ (view : PassView). merged view.mine other.mine) kept
              ∙ ap (merged old.mine) (r.mine ∙ ap (λ (view : PassView). view.mine ++ receipt.stamp ∷ []) gave)
              ∙ placed_last receipt.stamp old.mine (λ i within. omega (arith, (stamps.within i within).1, later));
        }

    had_apart : (addr value : ℕ) → HadValue opening given other addr value → HadValue opening old new addr value
    had_apart addr value had =
        record {
          state = had.state;
          no_older = omega (arith, had.no_older, ap (λ (view : PassView). view.front) gave);
          happened = omega (arith, had.happened, beginning_length _ _ joined.other_history);
          there = subst (λ memory. slice_get memory addr ≡ Some value)
              (sym (stays opening other.history new.history had.state joined.other_history had.happened)) had.there;
        }

    pub not_raised_apart : (life word : ℕ) (stop : BodyStop RaiseRefusal) → length new.history ≤ life → NotRaised opening life word given other stop
        → NotRaised opening life word old new stop
    not_raised_apart life word (Worn index) lasts (is, full) = (is, omega (arith, lasts, full, beginning_length _ _ joined.other_history))
    not_raised_apart life word (Refused Spent) lasts had = had_apart _ _ had
    not_raised_apart life word (Refused Full) lasts had = had_apart _ _ had
