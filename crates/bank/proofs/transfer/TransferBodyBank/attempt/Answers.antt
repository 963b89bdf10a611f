-- What the attempt did, and why it may be committed.
use Rattle.std.proofs.Common.{◌+◌, ◌<◌, ◌^◌, ◌∙◌, [], ◌∷◌, ◌-◌, sym, ap, subst, rules, arith}
use Rattle.tx_model.specs.Words.{put}
use Rattle.tx_model.specs.Calls.{IsLater}
use Rattle.tx_model.specs.Memory.{Agrees}
use Rattle.tx_model.specs.History.{state_at}
use Rattle.tx_model.proofs.lemmas.Calls.{goes_on_writing, ended_after}
use Rattle.bank.specs.declared.bank.Bank.{Bank}
use Rattle.bank.proofs.Attempts.{at, read_first, read_next, stop_is_shown, all_reads, no_writes, none_published, wrote, three_written}
use Rattle.bank.proofs.Transfers.{spent_refused, short_refused, sum_fits, transfers, may_commit}
use Rattle.bank.proofs.transfer.TransferBodyBank.attempt.Goals as goal

pub returns-then-count-eq0-clause-cause : goal.returns-then-count-eq0-clause-cause
returns-then-count-eq0-clause-cause g c =
    let order = c.args.self.now.order in
    let teller = c.args.self.now.teller in
    let one = read_first c.requires.active c.requires.fresh c.in_ok-count.ensures.read in
    let count_at = c.count_of-count_at.ensures ∙ ap (λ (bank : Bank). bank.accounts + teller) c.sense.ensures in
    let reads = all_reads c.requires.fresh one ∙ ap (λ addr. at addr c.in_ok-count.count ∷ []) count_at in
    (one.goes_on, λ memory agrees. spent_refused _ teller order memory _ _ reads c.if-count-eq0.true agrees)

pub returns-then-payer-amount-clause-cause : goal.returns-then-payer-amount-clause-cause
returns-then-payer-amount-clause-cause g c =
    let order = c.args.self.now.order in
    let teller = c.args.self.now.teller in
    let one = read_first c.requires.active c.requires.fresh c.in_ok-count.ensures.read in
    let two = read_next c.requires.fresh one c.in_ok-payer.ensures.read in
    let count_at = c.count_of-count_at.ensures ∙ ap (λ (bank : Bank). bank.accounts + teller) c.sense.ensures in
    let reads = all_reads c.requires.fresh two ∙ ap (λ addr. at addr c.in_ok-count.count ∷ at order.from c.in_ok-payer.payer ∷ []) count_at in
    (two.goes_on, λ memory agrees. short_refused _ teller order memory _ _ _ reads c.if-count-eq0.false c.if-payer-amount.true agrees)

pub returns-in_err-payee-clause-cause : goal.returns-in_err-payee-clause-cause
returns-in_err-payee-clause-cause g c =
    let one = read_first c.requires.active c.requires.fresh c.in_ok-count.ensures.read in
    let two = read_next c.requires.fresh one c.in_ok-payer.ensures.read in
    let ended = ended_after two.goes_on c.in_err-payee.ensures.ended in
    let shown = stop_is_shown (g.M.TxMemory.shows c.args.mem.now) c.args.self.now.order.to _ two
    c.in_ok-payer.ensures.read.one_state c.in_err-payee.ensures.ended c.in_err-payee.ensures.cause_stop in
    grind (rules, ended, shown, c.from_residual-in_err-payee.ensures)

pub overflow_add-payee : goal.overflow_add-payee
overflow_add-payee g c =
    let order = c.args.self.now.order in
    let teller = c.args.self.now.teller in
    let made = g.M.TxMemory.made c.args.mem.now in
    let one = read_first c.requires.active c.requires.fresh c.in_ok-count.ensures.read in
    let two = read_next c.requires.fresh one c.in_ok-payer.ensures.read in
    let three = read_next c.requires.fresh two c.in_ok-payee.ensures.read in
    let count_at = c.count_of-count_at.ensures ∙ ap (λ (bank : Bank). bank.accounts + teller) c.sense.ensures in
    let reads =
    all_reads c.requires.fresh three ∙ ap
    (λ addr. at addr c.in_ok-count.count ∷ at order.from c.in_ok-payer.payer ∷ at order.to c.in_ok-payee.payee ∷ []) count_at
    in
    let state = c.in_ok-payee.ensures.read.one_state in
    let memory = state_at made.opening (g.M.TxMemory.view c.read-3.new.pass).history (g.M.TxMemory.attempt c.read-3.new.pass).start in
    let fits : c.in_ok-payee.payee + order.amount < 2 ^ 64 =
    sum_fits made.sense.accounts teller order made.opening _ _ _ c.requires.needs.order c.if-count-eq0.false c.if-payer-amount.false memory
    ((g.met.M.TxMemory.knows c.args.mem.now c.read-3.new.pass c.in_ok-payee.ensures.of).good_states.states _ state.happened) (subst
    (λ words. Agrees words memory) reads state.agree)
    in
    omega (arith, fits)

pub returns-clause-later : goal.returns-clause-later
returns-clause-later g c =
    let one = read_first c.requires.active c.requires.fresh c.in_ok-count.ensures.read in
    let two = read_next c.requires.fresh one c.in_ok-payer.ensures.read in
    let three = read_next c.requires.fresh two c.in_ok-payee.ensures.read in
    subst (IsLater (g.M.TxMemory.view c.args.pass.now)) (sym (c.write-3.ensures.same ∙ c.write-2.ensures.same ∙ c.write.ensures.same)) three.goes_on.later

pub returns-clause-ready : goal.returns-clause-ready
returns-clause-ready g c =
    let order = c.args.self.now.order in
    let teller = c.args.self.now.teller in
    let made = g.M.TxMemory.made c.args.mem.now in
    let one = read_first c.requires.active c.requires.fresh c.in_ok-count.ensures.read in
    let two = read_next c.requires.fresh one c.in_ok-payer.ensures.read in
    let three = read_next c.requires.fresh two c.in_ok-payee.ensures.read in
    let count_at = c.count_of-count_at.ensures ∙ ap (λ (bank : Bank). bank.accounts + teller) c.sense.ensures in
    let reads =
    all_reads c.requires.fresh three ∙ ap
    (λ addr. at addr c.in_ok-count.count ∷ at order.from c.in_ok-payer.payer ∷ at order.to c.in_ok-payee.payee ∷ []) count_at
    in
    let written =
    three_written _ _ _ _ _ _ (no_writes c.requires.fresh three) (wrote c.unwrap.ensures c.write.ensures.written)
    (wrote c.unwrap-2.ensures c.write-2.ensures.written)
    (wrote c.unwrap-3.ensures c.write-3.ensures.written)
    in
    record {
      goes_on = goes_on_writing three.goes_on (c.write-3.ensures.same ∙ c.write-2.ensures.same ∙ c.write.ensures.same) written.start;
      may = λ some memory good fits.
          may_commit made.sense.accounts teller order made.opening _ _ _ c.requires.needs.order c.if-count-eq0.false c.if-payer-amount.false _
          (written.reads ∙ reads) (written.published ∙ none_published c.requires.fresh three)
          (written.writes ∙ ap (λ addr. put (put (put [] addr (c.in_ok-count.count - 1)) order.from (c.in_ok-payer.payer - order.amount)) order.to
          (c.in_ok-payee.payee + order.amount)) count_at)
          memory _ good fits;
    }

pub returns-clause-did : goal.returns-clause-did
returns-clause-did g c =
    let order = c.args.self.now.order in
    let teller = c.args.self.now.teller in
    let made = g.M.TxMemory.made c.args.mem.now in
    let one = read_first c.requires.active c.requires.fresh c.in_ok-count.ensures.read in
    let two = read_next c.requires.fresh one c.in_ok-payer.ensures.read in
    let three = read_next c.requires.fresh two c.in_ok-payee.ensures.read in
    let count_at = c.count_of-count_at.ensures ∙ ap (λ (bank : Bank). bank.accounts + teller) c.sense.ensures in
    let reads =
    all_reads c.requires.fresh three ∙ ap
    (λ addr. at addr c.in_ok-count.count ∷ at order.from c.in_ok-payer.payer ∷ at order.to c.in_ok-payee.payee ∷ []) count_at
    in
    let written =
    three_written _ _ _ _ _ _ (no_writes c.requires.fresh three) (wrote c.unwrap.ensures c.write.ensures.written)
    (wrote c.unwrap-2.ensures c.write-2.ensures.written)
    (wrote c.unwrap-3.ensures c.write-3.ensures.written)
    in
    transfers made.sense.accounts teller order made.opening _ _ _ c.requires.needs.order c.if-count-eq0.false c.if-payer-amount.false _
    (written.reads ∙ reads) (written.published ∙ none_published c.requires.fresh three)
    (written.writes ∙ ap (λ addr. put (put (put [] addr (c.in_ok-count.count - 1)) order.from (c.in_ok-payer.payer - order.amount)) order.to
    (c.in_ok-payee.payee + order.amount)) count_at)

-- ---- what a stop or a refusal leaves
pub returns-in_err-count-clause-later : goal.returns-in_err-count-clause-later
returns-in_err-count-clause-later g c = c.in_err-count.ensures.ended.later

pub returns-then-count-eq0-clause-later : goal.returns-then-count-eq0-clause-later
returns-then-count-eq0-clause-later g c = (read_first c.requires.active c.requires.fresh c.in_ok-count.ensures.read).goes_on.later

pub returns-in_err-payer-clause-later : goal.returns-in_err-payer-clause-later
returns-in_err-payer-clause-later g c =
    let one = read_first c.requires.active c.requires.fresh c.in_ok-count.ensures.read in
    (ended_after one.goes_on c.in_err-payer.ensures.ended).later

pub returns-in_err-payer-clause-cause : goal.returns-in_err-payer-clause-cause
returns-in_err-payer-clause-cause g c =
    let one = read_first c.requires.active c.requires.fresh c.in_ok-count.ensures.read in
    let ended = ended_after one.goes_on c.in_err-payer.ensures.ended in
    let shown = stop_is_shown (g.M.TxMemory.shows c.args.mem.now) c.args.self.now.order.from _ one
    c.in_ok-count.ensures.read.one_state c.in_err-payer.ensures.ended c.in_err-payer.ensures.cause_stop in
    grind (rules, ended, shown, c.from_residual-in_err-payer.ensures)

pub returns-then-payer-amount-clause-later : goal.returns-then-payer-amount-clause-later
returns-then-payer-amount-clause-later g c =
    let one = read_first c.requires.active c.requires.fresh c.in_ok-count.ensures.read in
    (read_next c.requires.fresh one c.in_ok-payer.ensures.read).goes_on.later

pub returns-in_err-payee-clause-later : goal.returns-in_err-payee-clause-later
returns-in_err-payee-clause-later g c =
    let one = read_first c.requires.active c.requires.fresh c.in_ok-count.ensures.read in
    let two = read_next c.requires.fresh one c.in_ok-payer.ensures.read in
    (ended_after two.goes_on c.in_err-payee.ensures.ended).later
