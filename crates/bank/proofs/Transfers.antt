-- What an attempt to transfer read and wrote, and what its commit makes of a bank.
use Rattle.std.proofs.Common.{◌≡◌, ◌≢◌, ℕ, ◌+◌, ◌-◌, ◌<◌, ◌≤◌, List, [], ◌∷◌, ◌^◌, Some, None, length, set, get_or, take, slice_get, nat_lt, if◌then◌else◌, refl, sym, ◌∙◌, ap, subst, arith}
use Rattle.std.proofs.lemmas.Bool.{ne_eqb, eq-eqb, lt-ltb, le-ltb, cond-true, cond-false}
use Rattle.std.proofs.lemmas.List.{length-take-le, get_or-take}
use Rattle.std.proofs.lemmas.Option.{get_or_from_slice_get, slice_get_within}
use Rattle.tx_model.specs.declared.word.Word.{Word}
use Rattle.tx_model.specs.declared.view.Attempt.{Attempt}
use Rattle.tx_model.specs.declared.view.Owned.{Owned}
use Rattle.tx_model.specs.Words.{index_of, put}
use Rattle.tx_model.specs.Memory.{after, Agrees}
use Rattle.tx_model.specs.History.{after_commit}
use Rattle.tx_model.specs.Attempt.{commit_of, Fits}
use Rattle.tx_model.proofs.lemmas.Memories.{after_commit_none}
use Rattle.bank.specs.declared.transfer.Order.{Order}
use Rattle.bank.specs.declared.transfer.Refusal.TheVariants.{NoTransfersLeft, InsufficientFunds}
use Rattle.bank.specs.Bank.{IsBank, transfers_left}
use Rattle.bank.specs.Transfer.{IsOrder, IsTransferred, Transfers, refusal_in}
use Rattle.bank.proofs.Attempts.{at}
use Rattle.bank.proofs.Moves.{moved, moved_transfers, moved_bank, two_within_sum}

-- ---- three words that were written
put_third : (one two three a b c : ℕ) → one ≢ two → one ≢ three → two ≢ three → put (put (put [] one a) two b) three c ≡ at one a ∷ at two b ∷ at three c ∷ []
unfolding index_of
put_third one two three a b c p q r = rw (ne_eqb one two p, ne_eqb one three q, ne_eqb two three r) refl

-- ---- a transfer in a bank of so many accounts
module _ (accounts teller : ℕ) (order : Order) (memory : List ℕ) where
  pub refuses_spent : slice_get memory (accounts + teller) ≡ Some 0 → refusal_in accounts teller order memory ≡ Some NoTransfersLeft
  refuses_spent count = cond-true _ _ _ (eq-eqb _ _ (get_or_from_slice_get memory (accounts + teller) 0 0 count))

  not_spent : get_or memory (accounts + teller) 0 ≢ 0
      → refusal_in accounts teller order memory ≡ (if nat_lt (get_or memory order.from 0) order.amount then Some InsufficientFunds else None)
  not_spent some = cond-false _ _ _ (ne_eqb _ _ some)

  pub refuses_short : {payer : ℕ} → get_or memory (accounts + teller) 0 ≢ 0 → slice_get memory order.from ≡ Some payer → payer < order.amount
      → refusal_in accounts teller order memory ≡ Some InsufficientFunds
  refuses_short {payer} some is short =
      not_spent some ∙ cond-true _ _ _ (lt-ltb (get_or memory order.from 0) order.amount (omega
      (arith, get_or_from_slice_get memory order.from payer 0 is, short)))

  pub allows : get_or memory (accounts + teller) 0 ≢ 0 → order.amount ≤ get_or memory order.from 0 → refusal_in accounts teller order memory ≡ None
  allows some enough = not_spent some ∙ cond-false _ _ _ (le-ltb _ _ enough)

  -- ---- from what an attempt has read
  pub spent_refused : (reads : List Word) (count : ℕ) → reads ≡ at (accounts + teller) count ∷ [] → count ≡ 0 → Agrees reads memory
      → refusal_in accounts teller order memory ≡ Some NoTransfersLeft
  spent_refused reads count are none agrees =
      let there : slice_get memory (accounts + teller) ≡ Some count = subst (λ words. Agrees words memory) are agrees 0 (at 0 0) (omega arith) in
      refuses_spent (there ∙ ap (λ n. Some n) none)

  pub short_refused : (reads : List Word) (count payer : ℕ) → reads ≡ at (accounts + teller) count ∷ at order.from payer ∷ [] → count ≢ 0 → payer < order.amount
      → Agrees reads memory → refusal_in accounts teller order memory ≡ Some InsufficientFunds
  short_refused reads count payer are some short agrees =
      let both = subst (λ words. Agrees words memory) are agrees in
      let there : slice_get memory (accounts + teller) ≡ Some count = both 0 (at 0 0) (omega arith) in
      refuses_short (omega (arith, get_or_from_slice_get memory (accounts + teller) count 0 there, some)) (both 1 (at 0 0) (omega arith)) short

-- ---- the attempt
module _ (accounts teller : ℕ) (order : Order) (opening : List ℕ) (count payer payee : ℕ) (is : IsOrder accounts order) (some : count ≢ 0)
    (enough : order.amount ≤ payer) where
  abbrev pub words_read : List Word
  words_read = at (accounts + teller) count ∷ at order.from payer ∷ at order.to payee ∷ []

  -- what a memory has that has the words read
  pub record Has (memory : List ℕ) : Type 0 where
    pub within : accounts + teller < length memory
    pub count_is : get_or memory (accounts + teller) 0 ≡ count
    pub payer_is : get_or memory order.from 0 ≡ payer
    pub payee_is : get_or memory order.to 0 ≡ payee

  pub has_words : (memory : List ℕ) → Agrees words_read memory → Has memory
  has_words memory agrees =
      let count_is = agrees 0 (at 0 0) (omega arith) in
      record {
        within = slice_get_within memory (accounts + teller) count count_is;
        count_is = get_or_from_slice_get memory (accounts + teller) count 0 count_is;
        payer_is = get_or_from_slice_get memory order.from payer 0 (agrees 1 (at 0 0) (omega arith));
        payee_is = get_or_from_slice_get memory order.to payee 0 (agrees 2 (at 0 0) (omega arith));
      }

  -- the sum fits, since both are within the money of a bank
  pub sum_fits : (memory : List ℕ) → IsBank accounts opening memory → Agrees words_read memory → payee + order.amount < 2 ^ 64
  sum_fits memory bank agrees =
      let has = has_words memory agrees in
      let front = take accounts memory in
      let long : length front ≡ accounts = length-take-le accounts memory bank.within in
      let both = two_within_sum front order.from order.to (omega (arith, long, is.from)) (omega (arith, long, is.to)) is.apart in
      let from_is = get_or-take accounts memory order.from 0 is.from in
      let to_is = get_or-take accounts memory order.to 0 is.to in
      omega (arith, both, from_is, to_is, has.payer_is, has.payee_is, enough, bank.fits)

  module _ (attempt : Attempt) (reads : attempt.reads ≡ words_read) (none : attempt.published ≡ [])
      (writes : attempt.writes ≡ put (put (put [] (accounts + teller) (count - 1)) order.from (payer - order.amount)) order.to (payee + order.amount)) where
    words : attempt.writes ≡ at (accounts + teller) (count - 1) ∷ at order.from (payer - order.amount) ∷ at order.to (payee + order.amount) ∷ []
    words = writes ∙ put_third (accounts + teller) order.from order.to (count - 1) (payer - order.amount) (payee + order.amount) (omega
        (arith, is.from)) (omega (arith, is.to)) is.apart

    after_is : (memory : List ℕ) (owned : List Owned) → Has memory → after_commit memory (commit_of attempt owned) ≡ moved accounts teller order memory
    after_is memory owned has =
        after_commit_none memory attempt owned none ∙ ap (after memory) words
        ∙ ap (λ n. set (set (set memory (accounts + teller) (n - 1)) order.from (payer - order.amount)) order.to (payee + order.amount)) (sym has.count_is)
        ∙ ap (λ n. set (set (set memory (accounts + teller) (get_or memory (accounts + teller) 0 - 1)) order.from (n - order.amount)) order.to
        (payee + order.amount)) (sym has.payer_is)
        ∙ ap (λ n. set (set (set memory (accounts + teller) (get_or memory (accounts + teller) 0 - 1)) order.from
        (get_or memory order.from 0 - order.amount)) order.to (n + order.amount)) (sym has.payee_is)

    had : (memory : List ℕ) → Agrees attempt.reads memory → Has memory
    had memory agrees = has_words memory (subst (λ list. Agrees list memory) reads agrees)

    pub transfers : Transfers accounts teller order opening attempt
    transfers =
        record {
          writes = λ nothing. let e = sym nothing ∙ words in cc;
          allowed = λ memory agrees. let has = had memory agrees in
              allows accounts teller order memory (omega (arith, has.count_is, some)) (omega (arith, has.payer_is, enough));
          transferred = λ memory owned bank agrees. let has = had memory agrees in
              subst (IsTransferred accounts teller order memory) (sym (after_is memory owned has))
              (moved_transfers accounts teller order memory is has.within (omega (arith, has.count_is, some)) (omega (arith, has.payer_is, enough)));
        }

    -- a bank is led to a bank, with one transfer less to come
    pub may_commit : (memory : List ℕ) (owned : List Owned) → IsBank accounts opening memory → Fits memory attempt owned
        → IsBank accounts opening (after_commit memory (commit_of attempt owned))
        × (transfers_left accounts (after_commit memory (commit_of attempt owned)) < transfers_left accounts memory)
    may_commit memory owned bank fits =
        let has = had memory fits.reads in
        subst (λ (words : List ℕ). IsBank accounts opening words
        × (transfers_left accounts words < transfers_left accounts memory)) (sym (after_is memory owned has))
        (moved_bank accounts teller order memory is has.within bank (omega (arith, has.count_is, some)) (omega (arith, has.payer_is, enough)))
