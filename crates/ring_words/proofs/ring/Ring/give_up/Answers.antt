-- Without its attempt the pass is one of the ring.
use Rattle.std.proofs.Common.{ap}
use Rattle.ring_core.specs.Machine.{Machine}
use Rattle.ring_core.specs.Request.{is_open}
use Rattle.ring_words.specs.declared.pass.RingPass.{RingPass}
use Rattle.ring_words.proofs.PassMoves.{attempt_ended}
use Rattle.ring_words.proofs.Knows.{pass_knows}
use Rattle.ring_words.proofs.ring.Ring.give_up.Goals as goal

pub returns-clause-of : goal.returns-clause-of
returns-clause-of g c =
    let ring = c.args.self.now.words.shared in
    let pass = c.args.pass.now in
    let now : RingPass g.row.S.Denot = record { local = c.give_up.new.self; seat = pass.seat; seals = pass.seals } in
    pass_knows g.S.Sense.allows g.S.Sense.good g.S.Sense.budget ring.key ring.table_id now c.requires.of.is_made
    (attempt_ended g.S.Sense.good g.S.Sense.budget ring.key ring.table_id pass c.requires.of.seated c.callers_change.ensures.becomes c.requires.active
    c.give_up.new.self c.give_up.ensures.idle)
    (ap (λ (m : Machine). is_open m.caller.stage) c.give_up.ensures.idle) c.requires.of.counted
