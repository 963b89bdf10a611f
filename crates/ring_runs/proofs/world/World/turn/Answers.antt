-- The caller goes on where its last turn ended.
use Rattle.ring_runs.proofs.Moving.{has_turned}
use Rattle.ring_runs.proofs.world.World.turn.Goals as goal

pub invariant_of-self : goal.invariant_of-self
invariant_of-self c =
    (has_turned c.moves_keep.ensures c.self.inside.plain c.self.invariant c.args.self.now c.self.view_is c.args.who c.requires.here
    c.index_mut-member.result.now c.index_mut-member.ensures.value c.turn.new.self c.requires.stamped c.requires.closed c.turn.ensures).kept

pub returns : goal.returns
returns c =
    let moved =
    has_turned c.moves_keep.ensures c.self.inside.plain c.self.invariant c.args.self.now c.self.view_is c.args.who c.requires.here
    c.index_mut-member.result.now c.index_mut-member.ensures.value c.turn.new.self c.requires.stamped c.requires.closed c.turn.ensures in
    record { moves = moved.moves; turns = moved.after }
