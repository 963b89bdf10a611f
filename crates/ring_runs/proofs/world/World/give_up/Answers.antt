-- The attempt is over.
use Rattle.ring_runs.proofs.Moving.{has_ended}
use Rattle.ring_runs.proofs.world.World.give_up.Goals as goal

pub invariant_of-self : goal.invariant_of-self
invariant_of-self c =
    (has_ended c.moves_keep.ensures c.self.inside.plain c.self.invariant c.args.self.now c.self.view_is c.args.who c.requires.here
    c.index_mut-member.result.now c.index_mut-member.ensures.value c.give_up.new.self c.requires.between c.give_up.ensures).kept

pub returns : goal.returns
returns c =
    let moved =
    has_ended c.moves_keep.ensures c.self.inside.plain c.self.invariant c.args.self.now c.self.view_is c.args.who c.requires.here
    c.index_mut-member.result.now c.index_mut-member.ensures.value c.give_up.new.self c.requires.between c.give_up.ensures in
    record { moves = moved.moves; ends = moved.after }
