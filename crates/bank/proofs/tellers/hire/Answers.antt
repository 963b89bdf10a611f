-- One pass more was split off.
use Rattle.std.proofs.Common.{◌∙◌, All, length, sym, ap, ap₂, subst, arith}
use Rattle.std.proofs.lemmas.List.{length_push}
use Rattle.std.proofs.lemmas.List.Elements.{All-push}
use Rattle.tx_model.specs.Shares.{joined}
use Rattle.bank.specs.declared.tellers.Tally.{Tally}
use Rattle.bank.specs.declared.tellers.Teller.{Teller}
use Rattle.bank.specs.Tellers.{IsReady, share_of, commits_of}
use Rattle.bank.proofs.TellerLists.{front_step, sum_last}
use Rattle.bank.proofs.tellers.hire.Goals as goal

pub loop-number-preserved : goal.loop-number-preserved
loop-number-preserved g c =
    let view = g.M.TxMemory.view in
    let made = g.M.TxMemory.made c.args.mem.now in
    let so_far = c.loop-number.invariant in
    let knows = c.pass_knows.ensures in
    let given = c.in-Ok-split.ensures.given in
    let kept = c.in-Ok-split.ensures.kept in
    let items = c.push_reserved.ensures.items in
    let old = c.loop-number.tellers.items in
    let all = c.push_reserved.new.self.items in
    let Ready = IsReady (g.M.TxMemory.of c.args.mem.now) view made.sense.accounts made.opening in
    let nothing : Tally = record { made = 0; no_transfers_left = 0; insufficient_funds = 0 } in
    let teller : Teller g.row.M-Pass.Denot = record { pass = c.in-Ok-split.other; number = c.loop-number.number; tally = nothing } in
    let ready : Ready teller = record {
      of_pass = given.0;
      idle = ap (λ v. v.state) given.1;
      has_word = omega
          (arith, c.requires.words, c.loop-number-test.true);
    } in
    record {
      of = c.in-Ok-split.ensures.of;
      idle = ap (λ v. v.state) kept ∙ so_far.idle;
      mine = ap (λ v. length v.mine) kept ∙ so_far.mine;
      hired = record {
        each = omega (arith, ap length items, length_push old teller, so_far.hired.each);
        ready = subst (All Ready) (sym items) (All-push Ready old teller so_far.hired.ready ready);
        shares = front_step (share_of view) (view c.loop-number.pass).share (view c.split.new.pass).share (view c.args.pass.now).share old all teller items
            (ap₂ joined (ap (λ v. v.share) kept) (ap (λ v. v.share) given.1)
            ∙ c.rejoined_share.ensures _ knows.names_apart knows.joined knows.named) so_far.hired.shares;
        none_made = omega (arith, sum_last (commits_of view) all old teller items, ap (λ v. length v.mine) given.1, so_far.hired.none_made);
      };
      room = omega (arith, so_far.room, c.push_reserved.ensures.capacity);
    }
