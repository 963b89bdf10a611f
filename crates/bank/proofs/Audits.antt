-- The values of the first words of a memory, as an audit reads them.
use Rattle.std.proofs.Common.{◌≡◌, ℕ, zero, suc, ◌+◌, ◌<◌, ◌≤◌, ◌^◌, ◌++◌, List, [], ◌∷◌, Some, length, get_or, take, sum, slice_get, sym, ◌∙◌, ap, subst, arith}
use Rattle.std.proofs.lemmas.List.{ext_get_or, get_or-take, length-take-le, length-append, get_or-append-add, take-take}
use Rattle.std.proofs.lemmas.List.Sums.{sum_by-take-le}
use Rattle.std.proofs.lemmas.Option.{get_or_from_slice_get}
use Rattle.tx_model.specs.declared.word.Word.{Word}
use Rattle.tx_model.specs.declared.view.Attempt.{Attempt}
use Rattle.tx_model.specs.declared.view.PassView.{PassView}
use Rattle.tx_model.specs.declared.pass.PassState.TheVariants.{Active}
use Rattle.tx_model.specs.Memory.{Agrees, words_from}
use Rattle.tx_model.specs.History.{state_at}
use Rattle.tx_model.specs.Made.{Made}
use Rattle.tx_model.specs.Calls.{Read}
use Rattle.tx_model.specs.Pass.{IsPass}
use Rattle.tx_model.proofs.lemmas.Passes.{active_not_idle}
use Rattle.bank.specs.declared.bank.Bank.{Bank}
use Rattle.bank.specs.Bank.{IsBank, money_in, transfers_left}
use Rattle.bank.specs.Audit.{Audits}
use Rattle.bank.proofs.Attempts.{at, HasRead, read_more}

-- ---- words in a row
from_last : (base : ℕ) (values : List ℕ) (value : ℕ) → words_from base (values ++ value ∷ []) ≡ words_from base values ++ at (base + length values) value ∷ []
from_last base [] value = ap (λ addr. at addr value ∷ []) (omega arith)
from_last base (first ∷ values) value =
    ap (λ words. at base first ∷ words) (from_last (base + 1) values value ∙ ap (λ addr. words_from (base + 1) values ++ at addr value ∷ []) (omega arith))

values_there : (base : ℕ) (values memory : List ℕ) → Agrees (words_from base values) memory → (k : ℕ) → k < length values
    → slice_get memory (base + k) ≡ Some (get_or values k 0)
values_there base [] memory agrees k below = absurd (omega (arith, below))
values_there base (first ∷ values) memory agrees zero below = ap (slice_get memory) (omega arith) ∙ agrees 0 (at 0 0) (omega arith)
values_there base (first ∷ values) memory agrees (suc k) below =
    ap (slice_get memory) (omega arith) ∙ values_there (base + 1) values memory (λ i d inside. agrees (suc i) d (omega (arith, inside))) k (omega
    (arith, below))

front_is : (values memory : List ℕ) → length values ≤ length memory → Agrees (words_from 0 values) memory → take (length values) memory ≡ values
front_is values memory short agrees =
    let long = length-take-le (length values) memory short in
    ext_get_or 0 (take (length values) memory) values long
    (λ k below. get_or-take (length values) memory k 0 (omega (arith, below, long))
    ∙ get_or_from_slice_get memory k (get_or values k 0) 0 (ap (slice_get memory) (omega arith)
    ∙ values_there 0 values memory agrees k (omega (arith, below, long))))

-- one account more was read
pub read_account : {opening : List ℕ} {old mid new : PassView} {before between now : Attempt} (values : List ℕ) (account value : ℕ) → length values ≡ account
    → HasRead old mid before between (words_from 0 values) → before.writes ≡ [] → Read opening mid new between now account value
    → HasRead old new before now (words_from 0 (values ++ value ∷ []))
read_account {old = old} {new = new} {before = before} {now = now} values account value each has none read =
    let row : words_from 0 values ++ at account value ∷ [] ≡ words_from 0 (values ++ value ∷ []) =
    ap (λ addr. words_from 0 values ++ at addr value ∷ []) (omega (arith, each)) ∙ sym (from_last 0 values value)
    in
    subst (HasRead old new before now) row (read_more has none read)

-- ---- in a bank
module _ {accounts : ℕ} {opening memory : List ℕ} (bank : IsBank accounts opening memory) (values : List ℕ) (agrees : Agrees (words_from 0 values) memory) where
  sum_within : length values ≤ accounts → sum values ≤ money_in accounts memory
  sum_within few =
      let same = front_is values memory (omega (arith, few, bank.within)) agrees in
      let part = take-take (length values) accounts memory few in
      let less = sum_by-take-le (λ (n : ℕ). n) (take accounts memory) (length values) in
      omega (arith, less, ap sum part, ap sum same)

  sum_exact : length values ≡ accounts → sum values ≡ money_in accounts opening
  sum_exact all =
      sym (ap sum (front_is values memory (omega (arith, all, bank.within)) agrees)) ∙ ap (λ n. sum (take n memory)) all ∙ bank.money

-- ---- what an attempt has read of a bank's accounts
agrees_behind : (first words : List Word) (memory : List ℕ) → Agrees (first ++ words) memory → Agrees words memory
agrees_behind first words memory agrees k d below =
    subst (λ (w : Word). slice_get memory w.addr ≡ Some w.value) (get_or-append-add first words k d)
    (agrees (length first + k) d (omega (arith, below, length-append first words)))

module _ {made : Made Bank} {old new : PassView} {before now : Attempt} (known : IsPass (λ (bank : Bank). IsBank bank.accounts) (λ
    (bank : Bank). transfers_left bank.accounts) made new now)
    (active : new.state ≡ Active) (values : List ℕ) (has : HasRead old new before now (words_from 0 values)) where
  abbrev memory : List ℕ
  memory = state_at made.opening new.history now.start

  is_bank : IsBank made.sense.accounts made.opening memory
  is_bank = known.good_states.states now.start (known.attempting (active_not_idle new.state active)).started

  agree : Agrees (words_from 0 values) memory
  agree =
      let all : Agrees (before.reads ++ words_from 0 values) memory =
      subst (λ words. Agrees words memory) has.reads (known.attempting (active_not_idle new.state active)).from_one.reads
      in
      agrees_behind before.reads (words_from 0 values) memory all

  pub fits_so_far : length values ≤ made.sense.accounts → sum values < 2 ^ 64
  fits_so_far few = let less = sum_within is_bank values agree few in omega (arith, less, is_bank.fits)

  pub audits_all : (total : ℕ) → length values ≡ made.sense.accounts → total ≡ sum values → Audits made.sense.accounts made.opening before now total
  audits_all total all added =
      record { balances = values; each = all; reads = has.reads; writes = has.writes; added = added; exact = added ∙ sum_exact is_bank values agree all }
