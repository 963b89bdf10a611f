-- The attempt is over.
use Rattle.ring_runs.proofs.Moving.{has_ended}
use Rattle.ring_runs.proofs.world.World.done.Goals as goal

pub invariant_of-self : goal.invariant_of-self
invariant_of-self c =
    (has_ended c.moves_keep.ensures c.self.inside.plain c.self.invariant c.args.self.now c.self.view_is c.args.who c.requires.here
    c.index_mut-member.result.now c.index_mut-member.ensures.value c.done.new.self c.requires.between c.done.ensures.idle).kept

pub returns-clause-moves : goal.returns-clause-moves
returns-clause-moves c =
    (has_ended c.moves_keep.ensures c.self.inside.plain c.self.invariant c.args.self.now c.self.view_is c.args.who c.requires.here
    c.index_mut-member.result.now c.index_mut-member.ensures.value c.done.new.self c.requires.between c.done.ensures.idle).moves

pub returns-clause-ends : goal.returns-clause-ends
returns-clause-ends c =
    (has_ended c.moves_keep.ensures c.self.inside.plain c.self.invariant c.args.self.now c.self.view_is c.args.who c.requires.here
    c.index_mut-member.result.now c.index_mut-member.ensures.value c.done.new.self c.requires.between c.done.ensures.idle).after
