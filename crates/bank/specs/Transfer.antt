-- What a transfer is in a memory, and what it leaves.
use Rattle.std.specs.Prelude.{◌≡◌, ◌≢◌, ℕ, ◌+◌, ◌<◌, ◌≤◌, ◌==◌, ◌++◌, ◌-◌, true, List, [], ◌∷◌, length, nat_lt, if◌then◌else◌, Option, Some, None, slice_index}
use Rattle.tx_model.specs.declared.pass.Receipt.{Receipt}
use Rattle.tx_model.specs.declared.view.Attempt.{Attempt}
use Rattle.tx_model.specs.declared.view.Owned.{Owned}
use Rattle.tx_model.specs.declared.view.PassView.{PassView}
use Rattle.tx_model.specs.Memory.{Agrees}
use Rattle.tx_model.specs.History.{IsBeginning, after_commit, state_at}
use Rattle.tx_model.specs.Attempt.{commit_of}
use Rattle.tx_model.specs.Calls.{IsLater}
use Rattle.bank.specs.declared.transfer.Order.{Order}
use Rattle.bank.specs.declared.transfer.Refusal.{Refusal}
use Rattle.bank.specs.declared.transfer.Refusal.TheVariants.{NoTransfersLeft, InsufficientFunds}
use Rattle.bank.specs.Bank.{IsBank}

-- between two accounts of the bank
pub record IsOrder (accounts : ℕ) (order : Order) : Type 0 where
  pub from : order.from < accounts
  pub to : order.to < accounts
  pub apart : order.from ≢ order.to

-- ---- a teller's transfer in a bank of so many accounts
module _ (accounts teller : ℕ) (order : Order) where
  -- how many transfers the teller may still make
  abbrev pub count_in : List ℕ → ℕ
  count_in words = slice_index words (accounts + teller)

  -- why it can't be made, if it can't
  abbrev pub refusal_in : List ℕ → Option Refusal
  refusal_in words =
      if count_in words == 0 then Some NoTransfersLeft else (if nat_lt (slice_index words order.from) order.amount then Some InsufficientFunds else None)

  -- the one account has so much less and the other so much more, the teller has one transfer less to come, and nothing else changed
  pub record IsTransferred (before after : List ℕ) : Type 0 where
    pub size : length after ≡ length before
    pub paid : slice_index after order.from + order.amount ≡ slice_index before order.from
    pub received : slice_index after order.to ≡ slice_index before order.to + order.amount
    pub counted : count_in after + 1 ≡ count_in before
    pub others : (addr : ℕ) → addr ≢ order.from → addr ≢ order.to → addr ≢ accounts + teller → slice_index after addr ≡ slice_index before addr

  -- the attempt makes the transfer in every bank that has what it read
  pub record Transfers (opening : List ℕ) (attempt : Attempt) : Type 0 where
    pub writes : attempt.writes ≢ []
    pub allowed : (memory : List ℕ) → Agrees attempt.reads memory → refusal_in memory ≡ None
    pub transferred : (memory : List ℕ) (owned : List Owned) → IsBank accounts opening memory → Agrees attempt.reads memory
        → IsTransferred memory (after_commit memory (commit_of attempt owned))

  -- what an attempt did: it makes the transfer, or every memory that has what it read refuses it
  abbrev pub DidTransfer : List ℕ → Option Refusal → Attempt → Type 0
  DidTransfer opening None attempt = Transfers opening attempt
  DidTransfer opening (Some refusal) attempt = (memory : List ℕ) → Agrees attempt.reads memory → refusal_in memory ≡ Some refusal

  -- the transfer is a commit of the history, after all that the pass knew, and the pass knows that it is complete
  pub record Transferred (opening : List ℕ) (old new : PassView) (receipt : Receipt) : Type 0 where
    pub wrote : receipt.wrote ≡ true
    pub history : IsBeginning old.history new.history
    pub later : length old.history < receipt.stamp
    pub complete : receipt.stamp ≤ new.front
    pub mine : new.mine ≡ old.mine ++ receipt.stamp ∷ []
    pub allowed : refusal_in (state_at opening new.history (receipt.stamp - 1)) ≡ None
    pub transferred : IsTransferred (state_at opening new.history (receipt.stamp - 1)) (state_at opening new.history receipt.stamp)

  -- a state that is no older than what the pass knew to be complete refused it, and the pass has no further commit
  pub record NotTransferred (opening : List ℕ) (old new : PassView) (refusal : Refusal) : Type 0 where
    pub later : IsLater old new
    pub state : ℕ
    pub no_older : old.front ≤ state
    pub happened : state ≤ length new.history
    pub refused : refusal_in (state_at opening new.history state) ≡ Some refusal

-- ---- the task of a transfer, as numbers
abbrev pub task_of : ℕ → Order → List ℕ
task_of teller order = teller ∷ order.from ∷ order.to ∷ order.amount ∷ []

abbrev pub order_of : List ℕ → Order
order_of task = record { from = slice_index task 1; to = slice_index task 2; amount = slice_index task 3 }

-- the order is between two accounts, and the teller has a word of the memory
pub record MayTransfer (accounts : ℕ) (opening task : List ℕ) : Type 0 where
  pub order : IsOrder accounts (order_of task)
  pub teller : accounts + slice_index task 0 < length opening
