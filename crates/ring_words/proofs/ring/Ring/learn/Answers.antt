use Rattle.std.proofs.Common.{rules}
use Rattle.ring_words.proofs.ring.Ring.learn.Goals as goal

pub returns-clause-joined : goal.returns-clause-joined
returns-clause-joined g c = search rules
