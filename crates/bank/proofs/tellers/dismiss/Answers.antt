-- The last of those who are left is joined.
use Rattle.std.proofs.lemmas.Grind.{elements}
use Rattle.std.proofs.Common.{◌∙◌, length, arith, ap}
use Rattle.bank.specs.Tellers.{IsReady, share_of, commits_of}
use Rattle.bank.proofs.TellerLists.{back_step, all_but_last, sum_last, length_merged}
use Rattle.bank.proofs.tellers.dismiss.Goals as goal

pub loop-teller-preserved : goal.loop-teller-preserved
loop-teller-preserved g c =
    let view = g.M.TxMemory.view in
    let made = g.M.TxMemory.made c.args.mem.now in
    let so_far = c.loop-teller.invariant in
    let joined = c.join.ensures.joined in
    let items = c.in-Some.ensures.items in
    let all = c.loop-teller.tellers.items in
    let rest = c.pop.new.self.items in
    let last = c.in-Some.teller in
    record {
      of = c.join.ensures.of;
      idle = joined.idle;
      ready = all_but_last (IsReady (g.M.TxMemory.of c.args.mem.now) view made.sense.accounts made.opening) all rest last items so_far.ready;
      share = back_step (share_of view) (view c.loop-teller.pass).share (view c.join.new.pass).share all rest last items joined.share ∙ so_far.share;
      mine = omega (
        arith,
        ap length joined.mine,
        length_merged (view c.loop-teller.pass).mine (view last.pass).mine,
        sum_last
            (commits_of view) all rest last items,
        so_far.mine,
      );
    }

pub join-requires-clause-of : goal.join-requires-clause-of
join-requires-clause-of g c = grind (arith, elements)

pub join-requires-clause-idle : goal.join-requires-clause-idle
join-requires-clause-idle g c = grind (arith, elements)
