-- The next step of a caller with an open request may be made.
use Rattle.std.proofs.Common.{arith}
use Rattle.ring_state.proofs.Ready.{ready_there, here_asking}
use Rattle.ring_state.proofs.plain.Plain.step.Goals as goal

pub index-member-requires : goal.index-member-requires
index-member-requires c = omega (arith, here_asking c.args.self.now c.requires.kept c.args.who c.requires.asks, c.args.self.now.members.ok.0)

pub make-requires : goal.make-requires
make-requires c =
    ready_there c.args.self.now c.requires.kept c.args.who c.requires.asks c.index-member.result.now c.index-member.ensures c.next_step.ensures.absorbs
    c.next-action.result c.next-action.ensures
