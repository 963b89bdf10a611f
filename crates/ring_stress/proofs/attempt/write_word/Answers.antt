-- A write behind the counts leaves them.
use Rattle.tx_model.proofs.lemmas.Attempts.{writes_apart}
use Rattle.ring_stress.proofs.Attempts.{counted_write, wrote_if}
use Rattle.ring_stress.proofs.attempt.write_word.Goals as goal

pub returns-then-is_ok-clause-counted : goal.returns-then-is_ok-clause-counted
returns-then-is_ok-clause-counted g c =
    let knows = g.met.M.TxMemory.knows c.args.mem.now c.args.pass.now c.requires.of in
    counted_write c.args.addr c.args.value c.requires.counted c.write.ensures.same (writes_apart knows c.requires.counted.active) c.requires.behind
    (wrote_if c.write.result c.if-is_ok.ensures.value c.write.ensures.written)
