use Rattle.std.proofs.Common.{rules}
use Rattle.ring_sig.proofs.sig.Sig.of_words.Goals as goal

pub loop-j-preserved : goal.loop-j-preserved
loop-j-preserved c = search rules
