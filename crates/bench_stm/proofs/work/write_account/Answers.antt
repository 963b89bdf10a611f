-- A write behind the counts leaves them.
use Rattle.tx_model.proofs.lemmas.Attempts.{writes_apart}
use Rattle.bench_stm.proofs.Attempts.{account_written, wrote}
use Rattle.bench_stm.proofs.work.write_account.Goals as goal

pub returns-clause-counted : goal.returns-clause-counted
returns-clause-counted g c =
    let knows = g.met.M.TxMemory.knows c.args.mem.now c.args.pass.now c.requires.of in
    account_written _ c.args.value c.requires.active c.write.ensures.same (writes_apart knows c.requires.active) c.account.ensures.account
    c.requires.lowers c.requires.none_published (wrote c.unwrap.ensures c.write.ensures.written)
