use Rattle.std.proofs.Common.{rules}
use Rattle.ring_words.proofs.layout.index_of.Goals as goal

pub returns-in-LoadTag : goal.returns-in-LoadTag
returns-in-LoadTag c = search rules
