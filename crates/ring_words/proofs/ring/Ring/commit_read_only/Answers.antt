-- Without its attempt the pass is one of the ring.
use Rattle.std.proofs.Common.{ap, rules}
use Rattle.ring_core.specs.Machine.{Machine}
use Rattle.ring_core.specs.Request.{is_open}
use Rattle.ring_words.specs.declared.pass.RingPass.{RingPass}
use Rattle.ring_words.proofs.PassMoves.{attempt_ended}
use Rattle.ring_words.proofs.Knows.{pass_knows}
use Rattle.ring_words.proofs.ring.Ring.commit_read_only.Goals as goal

pub returns-clause-of : goal.returns-clause-of
returns-clause-of g c =
    let ring = c.args.self.now.words.shared in
    let pass = c.args.pass.now in
    let now : RingPass g.row.S.Denot = record { local = c.finish_read_only-stamp.new.self; seat = pass.seat; seals = pass.seals } in
    pass_knows g.S.Sense.allows g.S.Sense.good g.S.Sense.budget ring.key ring.table_id now c.requires.of.is_made
    (attempt_ended g.S.Sense.good g.S.Sense.budget ring.key ring.table_id pass c.requires.of.seated c.callers_change.ensures.becomes c.requires.active
    c.finish_read_only-stamp.new.self c.finish_read_only-stamp.ensures.idle)
    (ap (λ (m : Machine). is_open m.caller.stage) c.finish_read_only-stamp.ensures.idle) c.requires.of.counted

pub returns-clause-only_read : goal.returns-clause-only_read
returns-clause-only_read g c = search rules

pub returns-clause-exactly : goal.returns-clause-exactly
returns-clause-exactly g c = search rules
