-- What was read so far is a part of the money of one state.
use Rattle.std.proofs.lemmas.Grind.{common_steps}
use Rattle.std.proofs.Common.{◌≡◌, ◌≤◌, ◌++◌, [], ◌∷◌, ℕ, length, ap, arith}
use Rattle.std.proofs.lemmas.List.{length_push}
use Rattle.std.proofs.lemmas.List.Sums.{sum_by-append}
use Rattle.bank.specs.declared.bank.Bank.{Bank}
use Rattle.bank.proofs.Audits.{read_account, fits_so_far, audits_all}
use Rattle.bank.proofs.audit.add_accounts.Goals as goal

pub overflow_add-total : goal.overflow_add-total
overflow_add-total g c =
    let so_far = c.loop-account.invariant in
    let balance = c.in_ok-balance.balance in
    let more = read_account so_far.balances _ balance so_far.each so_far.read c.requires.unwritten c.in_ok-balance.ensures.read in
    let few : length (so_far.balances ++ balance ∷ []) ≤ (g.M.TxMemory.made c.args.mem.now).sense.accounts =
    omega (arith, length_push so_far.balances balance, so_far.each, c.loop-account-test.true, ap (λ (bank : Bank). bank.accounts) c.sense.ensures)
    in
    let fits = fits_so_far (g.met.M.TxMemory.knows c.args.mem.now c.read.new.pass c.in_ok-balance.ensures.of) more.goes_on.active _ more few in
    omega (arith, fits, sum_by-append (λ (n : ℕ). n) so_far.balances (balance ∷ []), so_far.added)

pub loop-account-preserved : goal.loop-account-preserved
loop-account-preserved g c =
    let so_far = c.loop-account.invariant in
    let balance = c.in_ok-balance.balance in
    record {
      of = c.in_ok-balance.ensures.of;
      balances = so_far.balances ++ balance ∷ [];
      each = omega (arith, length_push so_far.balances balance, so_far.each);
      read = read_account so_far.balances _ balance so_far.each so_far.read c.requires.unwritten c.in_ok-balance.ensures.read;
      added = omega (arith, sum_by-append (λ (n : ℕ). n) so_far.balances (balance ∷ []), so_far.added);
    }

pub returns-clause-audits : goal.returns-clause-audits
returns-clause-audits g c =
    let so_far = c.loop-account.invariant in
    let all : length so_far.balances ≡ (g.M.TxMemory.made c.args.mem.now).sense.accounts =
    omega (arith, so_far.each, c.loop-account-test.false, c.loop-account.auto.account-end, ap (λ (bank : Bank). bank.accounts) c.sense.ensures)
    in
    audits_all (g.met.M.TxMemory.knows c.args.mem.now c.loop-account.pass so_far.of) so_far.read.goes_on.active so_far.balances so_far.read _ all so_far.added

pub returns-in_err-balance-clause-ended : goal.returns-in_err-balance-clause-ended
returns-in_err-balance-clause-ended g c = grind (arith, common_steps)

pub returns-in_err-balance-clause-cause : goal.returns-in_err-balance-clause-cause
returns-in_err-balance-clause-cause g c = grind (arith, common_steps)
