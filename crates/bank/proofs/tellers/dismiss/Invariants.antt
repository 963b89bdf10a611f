-- The passes that are left, joined as well, give the share and the number of commits.
use Rattle.std.proofs.Common.{◌≡◌, ◌+◌, map, sum, length, All, vec_len}
use Rattle.tx_model.specs.declared.pass.PassState.TheVariants.{Idle}
use Rattle.bank.specs.Tellers.{IsReady, share_of, commits_of, joined_back}
use Rattle.bank.proofs.tellers.dismiss.Given as goal

abbrev pub decreases-loop-teller : goal.decreases-loop-teller
decreases-loop-teller g l = vec_len l.tellers

abbrev pub invariant-loop-teller : goal.invariant-loop-teller
invariant-loop-teller g l =
    let view = g.M.TxMemory.view in
    record {
      of : g.M.TxMemory.of l.mem l.pass;
      idle : (view l.pass).state ≡ Idle;
      ready : All (IsReady (g.M.TxMemory.of l.mem) view (g.M.TxMemory.made l.mem).sense.accounts (g.M.TxMemory.made l.mem).opening) l.tellers.items;
      share : joined_back (view l.pass).share (map (share_of view) l.tellers.items) ≡ joined_back (view l.fn.pass).share (map
          (share_of view) l.fn.tellers.items);
      mine : length (view l.pass).mine + sum (map (commits_of view) l.tellers.items) ≡ length (view l.fn.pass).mine + sum (map
          (commits_of view) l.fn.tellers.items);
    }
