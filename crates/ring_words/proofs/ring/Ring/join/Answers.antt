-- The seat of an idle pass is a seat at rest.
use Rattle.std.proofs.Common.{rules}
use Rattle.ring_words.proofs.Taken.{seat_at_rest}
use Rattle.ring_words.proofs.ring.Ring.join.Goals as goal

pub take_in-requires-clause-other : goal.take_in-requires-clause-other
take_in-requires-clause-other g c =
    let shared = c.args.self.now.words.shared in
    seat_at_rest g.S.Sense.good g.S.Sense.budget shared.key shared.table_id c.args.other c.requires.of.1.seated c.requires.idle.1

pub returns-clause-joined : goal.returns-clause-joined
returns-clause-joined g c = search rules
