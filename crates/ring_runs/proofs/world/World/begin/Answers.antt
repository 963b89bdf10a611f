-- The caller is at the beginning of its request.
use Rattle.ring_runs.proofs.Moving.{has_begun}
use Rattle.ring_runs.proofs.world.World.begin.Goals as goal

pub invariant_of-self : goal.invariant_of-self
invariant_of-self c =
    (has_begun c.moves_keep.ensures c.self.inside.plain c.self.invariant c.args.self.now c.self.view_is c.args.who c.requires.here
    c.index_mut-member.result.now c.index_mut-member.ensures.value c.begin.new.self c.requires.idle c.requires.closed c.begin.ensures).kept

pub returns : goal.returns
returns c =
    let moved =
    has_begun c.moves_keep.ensures c.self.inside.plain c.self.invariant c.args.self.now c.self.view_is c.args.who c.requires.here
    c.index_mut-member.result.now c.index_mut-member.ensures.value c.begin.new.self c.requires.idle c.requires.closed c.begin.ensures in
    record { moves = moved.moves; begun = moved.after }
