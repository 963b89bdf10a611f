-- A write that is refused changes nothing, and another one is the last in the write set.
use Rattle.ring_runs.proofs.Moving.{heap_is, has_put}
use Rattle.ring_runs.proofs.world.World.write.Goals as goal

pub write-requires-clause-heap : goal.write-requires-clause-heap
write-requires-clause-heap c =
    heap_is c.moves_keep.ensures c.self.inside.plain c.self.invariant c.args.self.now c.self.view_is c.args.who c.requires.here c.index_mut-member.result.now
    c.index_mut-member.ensures.value c.args.addr c.requires.heap

pub invariant_of-self : goal.invariant_of-self
invariant_of-self c =
    (has_put c.moves_keep.ensures c.self.inside.plain c.self.invariant c.args.self.now c.self.view_is c.args.who c.requires.here
    c.index_mut-member.result.now c.index_mut-member.ensures.value c.write.new.self c.args.addr c.args.value c.requires.between c.requires.heap
    c.requires.may c.write.result c.write.ensures.full c.write.ensures.ok c.write.ensures.kept).kept

pub returns-clause-moves : goal.returns-clause-moves
returns-clause-moves c =
    (has_put c.moves_keep.ensures c.self.inside.plain c.self.invariant c.args.self.now c.self.view_is c.args.who c.requires.here
    c.index_mut-member.result.now c.index_mut-member.ensures.value c.write.new.self c.args.addr c.args.value c.requires.between c.requires.heap
    c.requires.may c.write.result c.write.ensures.full c.write.ensures.ok c.write.ensures.kept).moves

pub returns-clause-wrote : goal.returns-clause-wrote
returns-clause-wrote c =
    (has_put c.moves_keep.ensures c.self.inside.plain c.self.invariant c.args.self.now c.self.view_is c.args.who c.requires.here
    c.index_mut-member.result.now c.index_mut-member.ensures.value c.write.new.self c.args.addr c.args.value c.requires.between c.requires.heap
    c.requires.may c.write.result c.write.ensures.full c.write.ensures.ok c.write.ensures.kept).wrote

pub returns-clause-kept : goal.returns-clause-kept
returns-clause-kept c =
    (has_put c.moves_keep.ensures c.self.inside.plain c.self.invariant c.args.self.now c.self.view_is c.args.who c.requires.here
    c.index_mut-member.result.now c.index_mut-member.ensures.value c.write.new.self c.args.addr c.args.value c.requires.between c.requires.heap
    c.requires.may c.write.result c.write.ensures.full c.write.ensures.ok c.write.ensures.kept).same
