-- The caller is at the beginning of its check.
use Rattle.ring_runs.proofs.Moving.{has_stamped}
use Rattle.ring_runs.proofs.world.World.stamp.Goals as goal

pub invariant_of-self : goal.invariant_of-self
invariant_of-self c =
    (has_stamped c.moves_keep.ensures c.self.inside.plain c.self.invariant c.args.self.now c.self.view_is c.args.who c.requires.here
    c.index_mut-member.result.now c.index_mut-member.ensures.value c.stamp.new.self c.requires.between c.requires.wrote c.stamp.ensures).kept

pub returns : goal.returns
returns c =
    let moved =
    has_stamped c.moves_keep.ensures c.self.inside.plain c.self.invariant c.args.self.now c.self.view_is c.args.who c.requires.here
    c.index_mut-member.result.now c.index_mut-member.ensures.value c.stamp.new.self c.requires.between c.requires.wrote c.stamp.ensures in
    record { moves = moved.moves; stamps = moved.after }
