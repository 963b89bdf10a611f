-- Money that moves from one word of a memory to another.
use Rattle.std.proofs.Common.{◌≡◌, ◌≢◌, ℕ, ◌+◌, ◌-◌, ◌<◌, ◌≤◌, List, length, set, get_or, take, drop, sum, sym, ◌∙◌, ap, arith}
use Rattle.std.proofs.lemmas.List.{length-set, length-take-le, length-drop, get_or-set_same, get_or-set_other, get_or-take, get_or-drop, take-set-le, drop-set-lt, drop-set-add}
use Rattle.std.proofs.lemmas.List.Sums.{sum_by-set}
use Rattle.std.proofs.Math.Seq.{take-set-lt}
use Rattle.bank.specs.declared.transfer.Order.{Order}
use Rattle.bank.specs.Bank.{IsBank, money_in, transfers_left}
use Rattle.bank.specs.Transfer.{IsOrder, IsTransferred}

sum_set : (xs : List ℕ) (i y : ℕ) → i < length xs → sum (set xs i y) + get_or xs i 0 ≡ sum xs + y
sum_set xs i y below = sum_by-set (λ (n : ℕ). n) xs i y 0 below

-- two elements are within the sum
pub two_within_sum : (xs : List ℕ) (i j : ℕ) → i < length xs → j < length xs → i ≢ j → get_or xs i 0 + get_or xs j 0 ≤ sum xs
two_within_sum xs i j i_below j_below apart =
    let first = sum_set xs i 0 i_below in
    let second = sum_set (set xs i 0) j 0 (omega (arith, j_below, length-set xs i 0)) in
    omega (arith, first, second, get_or-set_other xs i j 0 0 (λ same. apart (sym same)))

-- the memory after a transfer
abbrev pub moved : (accounts teller : ℕ) (order : Order) → List ℕ → List ℕ
moved accounts teller order memory =
    set (set (set memory (accounts + teller) (get_or memory (accounts + teller) 0 - 1)) order.from (get_or memory order.from 0 - order.amount))
    order.to (get_or memory order.to 0 + order.amount)

module _ (accounts teller : ℕ) (order : Order) (memory : List ℕ) (is : IsOrder accounts order) (has_teller : accounts + teller < length memory) where
  abbrev counted : List ℕ
  counted = set memory (accounts + teller) (get_or memory (accounts + teller) 0 - 1)

  abbrev paid : List ℕ
  paid = set counted order.from (get_or memory order.from 0 - order.amount)

  pub moved_transfers : 0 < get_or memory (accounts + teller) 0 → order.amount ≤ get_or memory order.from 0
      → IsTransferred accounts teller order memory (moved accounts teller order memory)
  moved_transfers some enough =
      let c = accounts + teller in
      record {
        size = length-set paid order.to _ ∙ length-set counted order.from _ ∙ length-set memory c _;
        paid =
            let e = get_or-set_other paid order.to order.from (get_or memory order.to 0 + order.amount) 0 is.apart in
            let s = get_or-set_same counted order.from (get_or memory order.from 0 - order.amount) 0 (omega
            (arith, is.from, has_teller, length-set memory c (get_or memory c 0 - 1))) in
            omega (arith, e, s, enough);
        received =
            get_or-set_same paid order.to (get_or memory order.to 0 + order.amount) 0
            (omega (
              arith,
              is.to,
              has_teller,
              length-set counted order.from (get_or memory order.from 0 - order.amount),
              length-set memory c
                  (get_or memory c 0 - 1),
            ));
        counted =
            let e = get_or-set_other paid order.to c (get_or memory order.to 0 + order.amount) 0 (omega (arith, is.to)) in
            let f = get_or-set_other counted order.from c (get_or memory order.from 0 - order.amount) 0 (omega (arith, is.from)) in
            let s = get_or-set_same memory c (get_or memory c 0 - 1) 0 has_teller in
            omega (arith, e, f, s, some);
        others = λ addr from to count.
            get_or-set_other paid order.to addr _ 0 to ∙ get_or-set_other counted order.from addr _ 0 from ∙ get_or-set_other memory c addr _ 0 count;
      }

  -- the accounts have as much money as before
  pub moved_money : order.amount ≤ get_or memory order.from 0 → money_in accounts (moved accounts teller order memory) ≡ money_in accounts memory
  moved_money enough =
      let front = take accounts memory in
      let y = get_or memory order.from 0 - order.amount in
      let z = get_or memory order.to 0 + order.amount in
      let long : length front ≡ accounts = length-take-le accounts memory (omega (arith, has_teller)) in
      let is_front : take accounts (moved accounts teller order memory) ≡ set (set front order.from y) order.to z =
      take-set-lt accounts paid order.to z is.to ∙ ap (λ (l : List ℕ). set l order.to z)
      (take-set-lt accounts counted order.from y is.from
      ∙ ap (λ (l : List ℕ). set l order.from y) (take-set-le accounts memory (accounts + teller) (get_or memory (accounts + teller) 0 - 1) (omega arith)))
      in
      let first = sum_set front order.from y (omega (arith, long, is.from)) in
      let second = sum_set (set front order.from y) order.to z (omega (arith, long, is.to, length-set front order.from y)) in
      let from_is = get_or-take accounts memory order.from 0 is.from in
      let to_is = get_or-set_other front order.from order.to y 0 (λ same. is.apart (sym same)) ∙ get_or-take accounts memory order.to 0 is.to in
      ap sum is_front ∙ omega (arith, first, second, from_is, to_is, enough)

  -- one transfer less is to come
  pub moved_left : 0 < get_or memory (accounts + teller) 0 → transfers_left accounts (moved accounts teller order memory) + 1 ≡ transfers_left accounts memory
  moved_left some =
      let back = drop accounts memory in
      let x = get_or memory (accounts + teller) 0 - 1 in
      let is_back : drop accounts (moved accounts teller order memory) ≡ set back teller x =
      drop-set-lt accounts paid order.to (get_or memory order.to 0 + order.amount) is.to
      ∙ drop-set-lt accounts counted order.from (get_or memory order.from 0 - order.amount) is.from ∙ drop-set-add accounts memory teller x
      in
      let last = sum_set back teller x (omega (arith, has_teller, length-drop accounts memory)) in
      omega (arith, ap sum is_back, last, get_or-drop accounts memory teller 0, some)

  -- a bank is led to a bank, with one transfer less to come
  pub moved_bank : {opening : List ℕ} → IsBank accounts opening memory → 0 < get_or memory (accounts + teller) 0 → order.amount ≤ get_or memory order.from 0
      → IsBank accounts opening (moved accounts teller order memory)
      × (transfers_left accounts (moved accounts teller order memory) < transfers_left accounts memory)
  moved_bank bank some enough =
      let size = (moved_transfers some enough).size in
      let money = moved_money enough in
      let left = moved_left some in (
        record {
          size = size ∙ bank.size;
          within = omega (arith, size, bank.within);
          money = money
              ∙ bank.money;
          fits = omega (arith, money, bank.fits);
          left = omega (arith, left, bank.left);
        },
        omega (arith, left),
      )
