-- The first word with the address, or none.
use Rattle.std.proofs.Common.{sym, ap, arith}
use Rattle.tx_model.specs.Words.{value_at}
use Rattle.tx_model.proofs.lemmas.WordIndexes.{index_is, index_is_none}
use Rattle.ring_state.proofs.gates.first_value.Goals as goal

pub returns-then-word-addr : goal.returns-then-word-addr
returns-then-word-addr c =
    let words = c.args.words.now in
    sym (ap (value_at words) (index_is words c.args.addr c.loop-word.word-index c.loop-word-test.true c.if-word-addr.true c.loop-word.invariant))

pub returns : goal.returns
returns c =
    let words = c.args.words.now in
    sym (ap (value_at words) (index_is_none words c.args.addr (λ k below. c.loop-word.invariant k (omega (arith, below, c.loop-word-test.false)))))
