use Rattle.std.proofs.Common.{set, ap, ◌∙◌, arith}
use Rattle.mail_words.proofs.Bytes.{lowered_more, lowered_all}
use Rattle.mail_words.proofs.key.padded_lower.Goals as goal

pub loop-index-preserved : goal.loop-index-preserved
loop-index-preserved c =
    ap (λ byte. set c.loop-index.bytes c.loop-index.index byte) c.to_ascii_lowercase.ensures.value
    ∙ lowered_more c.args.word.now c.loop-index.bytes c.loop-index.index c.loop-index-test.true c.requires c.loop-index.invariant

pub returns : goal.returns
returns c =
    lowered_all c.args.word.now c.loop-index.bytes c.loop-index.index c.loop-index-test.false c.requires (omega arith) c.loop-index.invariant
