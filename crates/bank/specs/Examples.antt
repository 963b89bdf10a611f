-- Worked examples: a bank of two accounts with 10 and 5, and of one teller who may make 3 transfers.
use Rattle.std.specs.Prelude.{◌≡◌, ℕ, List, [], ◌∷◌, Some, None}
use Rattle.tx_model.specs.declared.word.Word.{Word}
use Rattle.tx_model.specs.declared.view.Attempt.{Attempt}
use Rattle.tx_model.specs.Attempt.{starting_at}
use Rattle.bank.specs.declared.transfer.Order.{Order}
use Rattle.bank.specs.declared.transfer.Refusal.TheVariants.{NoTransfersLeft, InsufficientFunds}
use Rattle.bank.specs.declared.tellers.Tally.{Tally}
use Rattle.bank.specs.Bank.{IsBank, money_in, transfers_left}
use Rattle.bank.specs.Transfer.{IsOrder, IsTransferred, refusal_in}
use Rattle.bank.specs.Audit.{Audits}
use Rattle.bank.specs.Tellers.{AreTallies, all_made}

abbrev pub opening : List ℕ
opening = 10 ∷ 5 ∷ 3 ∷ []

-- 4 moved from account 0 to account 1
abbrev pub moved : List ℕ
moved = 6 ∷ 9 ∷ 2 ∷ []

abbrev pub order : ℕ → Order
order amount = record { from = 0; to = 1; amount = amount }

-- ---- banks
abbrev pub SumsExample : Type 0
SumsExample = (money_in 2 opening ≡ 15) × (transfers_left 2 opening ≡ 3)

abbrev pub BankExample : Type 0
BankExample = IsBank 2 opening moved

-- money came from nowhere
abbrev pub NoBankExample : Type 0
NoBankExample = ¬ IsBank 2 opening (10 ∷ 9 ∷ 2 ∷ [])

-- ---- transfers
abbrev pub OrderExample : Type 0
OrderExample = IsOrder 2 (order 4) × (¬ IsOrder 1 (order 4))

abbrev pub TransferredExample : Type 0
TransferredExample = IsTransferred 2 0 (order 4) opening moved

-- the teller didn't count
abbrev pub UncountedExample : Type 0
UncountedExample = ¬ IsTransferred 2 0 (order 4) opening (6 ∷ 9 ∷ 3 ∷ [])

-- all that the account has can be moved
abbrev pub AllowedExample : Type 0
AllowedExample = refusal_in 2 0 (order 10) opening ≡ None

abbrev pub ShortExample : Type 0
ShortExample = refusal_in 2 0 (order 11) opening ≡ Some InsufficientFunds

-- the count comes first
abbrev pub SpentExample : Type 0
SpentExample = refusal_in 2 0 (order 11) (10 ∷ 5 ∷ 0 ∷ []) ≡ Some NoTransfersLeft

-- ---- audits
abbrev pub at : ℕ → ℕ → Word
at addr value = record { addr = addr; value = value }

abbrev pub reading : List Word → Attempt
reading words = record (starting_at 0) { reads = words }

abbrev pub AuditExample : Type 0
AuditExample = Audits 2 opening (starting_at 0) (reading (at 0 6 ∷ at 1 9 ∷ [])) 15

-- the last account was left out
abbrev pub PartExample : Type 0
PartExample = ¬ Audits 2 opening (starting_at 0) (reading (at 0 15 ∷ [])) 15

-- ---- tallies
abbrev pub tallies : List Tally
tallies =
    record { made = 2; no_transfers_left = 0; insufficient_funds = 1 } ∷ record { made = 1; no_transfers_left = 2; insufficient_funds = 0 } ∷ []

abbrev pub TalliesExample : Type 0
TalliesExample = AreTallies 2 3 tallies × (all_made tallies ≡ 3)
