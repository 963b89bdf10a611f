-- What an order that was tried until it was done leaves of the bank.
use Rattle.std.proofs.Common.{◌≡◌, ℕ, ◌+◌, ◌-◌, ◌<◌, List, Option, slice_index, sym, ◌∙◌, ap, subst, arith, inl, inr}
use Rattle.std.proofs.lemmas.Option.{slice_get_within}
use Rattle.tx_model.specs.declared.pass.Receipt.{Receipt}
use Rattle.tx_model.specs.declared.view.Attempt.{Attempt}
use Rattle.tx_model.specs.declared.view.PassView.{PassView}
use Rattle.tx_model.specs.History.{state_at, IsGoodHistory}
use Rattle.tx_model.specs.Attempt.{commit_of}
use Rattle.tx_model.specs.Tries.{Done, GaveUp, HadNoMore, NotDone}
use Rattle.tx_model.specs.declared.trying.BodyStop.{BodyStop}
use Rattle.tx_model.specs.declared.trying.BodyStop.TheVariants.{Worn, Refused}
use Rattle.tx_model.proofs.lemmas.States.{state_next, budget_bounds}
use Rattle.bank.specs.declared.transfer.Order.{Order}
use Rattle.bank.specs.declared.transfer.Refusal.{Refusal}
use Rattle.bank.specs.Bank.{IsBank, transfers_left}
use Rattle.bank.specs.Transfer.{IsTransferred, DidTransfer, Transferred, NotTransferred, task_of, order_of}

module _ (accounts teller : ℕ) (order : Order) (opening : List ℕ) (old new : PassView) where
  -- where the memory may have more commits than the bank has transfers, it is never worn out
  pub never_worn : {life index : ℕ} → IsGoodHistory (IsBank accounts opening) (transfers_left accounts) opening new.history
      → transfers_left accounts opening < life
      → HadNoMore (DidTransfer accounts teller order opening) opening life old new index → ⊥
  never_worn good enough worn =
      let most = (budget_bounds (IsBank accounts opening) (transfers_left accounts) opening new.history good).1 in
      omega (arith, most, worn.worn.full, enough)

  pub not_transferred : {refusal : Refusal} → GaveUp (DidTransfer accounts teller order opening) opening old new refusal
      → NotTransferred accounts teller order opening old new refusal
  not_transferred gave_up =
      record {
        later = gave_up.ended.later;
        state = gave_up.attempt.start;
        no_older = gave_up.fresh;
        happened = gave_up.one_state.happened;
        refused = gave_up.meaning (state_at opening new.history gave_up.attempt.start) gave_up.one_state.agree;
      }

  pub transferred : {receipt : Receipt} → IsGoodHistory (IsBank accounts opening) (transfers_left accounts) opening new.history
      → Done (DidTransfer accounts teller order opening) opening old new receipt → Transferred accounts teller order opening old new receipt
  transferred {receipt} good done =
      elim done.committed.received [
        | inl (wrote, some, w) ↦
            let k = receipt.stamp - 1 in
            let memory = state_at opening new.history k in
            let next : k + 1 ≡ receipt.stamp = omega (arith, w.later) in
            let bank = good.states k (omega (arith, slice_get_within new.history k (commit_of done.attempt old.owned) w.there)) in
            record {
              wrote = wrote;
              history = w.history;
              later = w.later;
              complete = w.complete;
              mine = w.mine;
              allowed = done.meaning.allowed memory w.fits.reads;
              transferred = subst (IsTransferred accounts teller order memory) (sym (state_next opening new.history k
                  (commit_of done.attempt old.owned) w.there) ∙ ap (state_at opening new.history) next)
                  (done.meaning.transferred memory old.owned bank w.fits.reads);
            }
        | inr (wrote, none, r) ↦ absurd (done.meaning.writes none)
      ]

-- ---- the body that was tried is the one that carries out this order
abbrev DidTask : ℕ → List ℕ → List ℕ → Option Refusal → Attempt → Type 0
DidTask accounts opening task = DidTransfer accounts (slice_index task 0) (order_of task) opening

module _ {accounts teller tried : ℕ} {order other : Order} {opening : List ℕ} {old new : PassView} (same : task_of tried other ≡ task_of teller order) where
  pub done_as_asked : {receipt : Receipt} → Done (DidTransfer accounts tried other opening) opening old new receipt
      → Done (DidTransfer accounts teller order opening) opening old new receipt
  done_as_asked {receipt} = subst (λ task. Done (DidTask accounts opening task) opening old new receipt) same

  pub refused_as_asked : (life : ℕ) {stop : BodyStop Refusal} {refusal : Refusal} → stop ≡ Refused refusal
      → NotDone (DidTransfer accounts tried other opening) opening life old new stop
      → GaveUp (DidTransfer accounts teller order opening) opening old new refusal
  refused_as_asked life {stop} {refusal} is not_done =
      subst (λ task. GaveUp (DidTask accounts opening task) opening old new refusal) same (subst (NotDone
      (DidTransfer accounts tried other opening) opening life old new) is not_done)

  pub worn_as_asked : {life index : ℕ} {stop : BodyStop Refusal} → stop ≡ Worn index
      → NotDone (DidTransfer accounts tried other opening) opening life old new stop
      → HadNoMore (DidTransfer accounts teller order opening) opening life old new index
  worn_as_asked {life} {index} {stop} is not_done =
      subst (λ task. HadNoMore (DidTask accounts opening task) opening life old new index) same (subst (NotDone
      (DidTransfer accounts tried other opening) opening life old new) is not_done)
