-- A read from the write set changes nothing, and another one opens a request.
use Rattle.ring_runs.proofs.Moving.{heap_is, has_read}
use Rattle.ring_runs.proofs.world.World.read.Goals as goal

pub read-requires-clause-heap : goal.read-requires-clause-heap
read-requires-clause-heap c =
    heap_is c.moves_keep.ensures c.self.inside.plain c.self.invariant c.args.self.now c.self.view_is c.args.who c.requires.here c.index_mut-member.result.now
    c.index_mut-member.ensures.value c.args.addr c.requires.heap

pub invariant_of-self : goal.invariant_of-self
invariant_of-self c =
    (has_read c.moves_keep.ensures c.self.inside.plain c.self.invariant c.args.self.now c.self.view_is c.args.who c.requires.here
    c.index_mut-member.result.now c.index_mut-member.ensures.value c.read.new.self c.args.addr c.requires.between c.requires.heap c.requires.may
    c.read.result c.read.ensures.exactly c.read.ensures.answered c.read.ensures.opened).kept

pub returns-clause-moves : goal.returns-clause-moves
returns-clause-moves c =
    (has_read c.moves_keep.ensures c.self.inside.plain c.self.invariant c.args.self.now c.self.view_is c.args.who c.requires.here
    c.index_mut-member.result.now c.index_mut-member.ensures.value c.read.new.self c.args.addr c.requires.between c.requires.heap c.requires.may
    c.read.result c.read.ensures.exactly c.read.ensures.answered c.read.ensures.opened).moves

pub returns-clause-answered : goal.returns-clause-answered
returns-clause-answered c =
    (has_read c.moves_keep.ensures c.self.inside.plain c.self.invariant c.args.self.now c.self.view_is c.args.who c.requires.here
    c.index_mut-member.result.now c.index_mut-member.ensures.value c.read.new.self c.args.addr c.requires.between c.requires.heap c.requires.may
    c.read.result c.read.ensures.exactly c.read.ensures.answered c.read.ensures.opened).answered

pub returns-clause-asked : goal.returns-clause-asked
returns-clause-asked c =
    (has_read c.moves_keep.ensures c.self.inside.plain c.self.invariant c.args.self.now c.self.view_is c.args.who c.requires.here
    c.index_mut-member.result.now c.index_mut-member.ensures.value c.read.new.self c.args.addr c.requires.between c.requires.heap c.requires.may
    c.read.result c.read.ensures.exactly c.read.ensures.answered c.read.ensures.opened).asked
