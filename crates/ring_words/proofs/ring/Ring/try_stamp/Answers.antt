-- The request is opened, and its answer is the call's.
use Rattle.std.proofs.Common.{◌≤◌, ◌+◌, ◌*◌, sym, subst}
use Rattle.ring_core.specs.declared.shape.Shape.{Shape}
use Rattle.ring_core.specs.Shape.{IsShape}
use Rattle.ring_core.specs.Machine.{steps_of}
use Rattle.ring_words.specs.declared.stamp.Stamp.TheVariants as stamp
use Rattle.ring_words.proofs.StampCalls.{some_written, stamp_seated, stamp_said, stamp_leaves, stamp_alone, stamp_few}
use Rattle.ring_words.proofs.StampAnswers.{Says, nothing_else}
use Rattle.ring_words.proofs.ring.Ring.try_stamp.Goals as goal

pub start_stamp-requires-clause-wrote : goal.start_stamp-requires-clause-wrote
start_stamp-requires-clause-wrote g c = some_written c.args.pass.now.local.caller.writes c.requires.wrote

pub stamp-requires-clause-of : goal.stamp-requires-clause-of
stamp-requires-clause-of g c =
    let ring = c.args.self.now in
    let pass = c.args.pass.now in
    let p = c.requires.of in
    stamp_seated g.S.Sense.good g.S.Sense.budget ring.words.shared.key ring.words.shared.table_id pass p.seated p.closed c.requires.active c.requires.wrote
    c.start_stamp.new.self c.start_stamp.ensures.opened c.move_keeps.ensures (subst IsShape (sym ring.told.1) ring.limits) c.moves_keep.ensures
    c.start_stamp.ensures.moved

pub returns-in-Stamped-clause-of : goal.returns-in-Stamped-clause-of
returns-in-Stamped-clause-of g c =
    let ring = c.args.self.now in
    let pass = c.args.pass.now in
    let p = c.requires.of in
    stamp_leaves g.S.Sense.good g.S.Sense.budget ring.words.shared.key ring.words.shared.table_id pass p.seated p.closed c.requires.active c.requires.wrote
    c.start_stamp.new.self c.start_stamp.ensures.opened c.stamp.new.pass c.stamp.result c.stamp.ensures.answered
    g.S.Sense.allows p c.stamp.ensures.of c.stamp.ensures.closed

pub returns-in-Stamped-clause-answer : goal.returns-in-Stamped-clause-answer
returns-in-Stamped-clause-answer g c =
    let ring = c.args.self.now in
    let pass = c.args.pass.now in
    let p = c.requires.of in
    subst (Says ring.words.shared.key pass c.stamp.new.pass) c.in-Stamped.is
    (stamp_said g.S.Sense.good g.S.Sense.budget ring.words.shared.key ring.words.shared.table_id pass p.seated p.closed c.requires.active c.requires.wrote
    c.start_stamp.new.self c.start_stamp.ensures.opened c.stamp.new.pass c.stamp.result c.stamp.ensures.answered)

pub returns-in-Later-clause-of : goal.returns-in-Later-clause-of
returns-in-Later-clause-of g c =
    let ring = c.args.self.now in
    let pass = c.args.pass.now in
    let p = c.requires.of in
    stamp_leaves g.S.Sense.good g.S.Sense.budget ring.words.shared.key ring.words.shared.table_id pass p.seated p.closed c.requires.active c.requires.wrote
    c.start_stamp.new.self c.start_stamp.ensures.opened c.stamp.new.pass c.stamp.result c.stamp.ensures.answered
    g.S.Sense.allows p c.stamp.ensures.of c.stamp.ensures.closed

pub returns-in-Later-clause-answer : goal.returns-in-Later-clause-answer
returns-in-Later-clause-answer g c =
    let ring = c.args.self.now in
    let pass = c.args.pass.now in
    let p = c.requires.of in
    subst (Says ring.words.shared.key pass c.stamp.new.pass) c.in-Later.is
    (stamp_said g.S.Sense.good g.S.Sense.budget ring.words.shared.key ring.words.shared.table_id pass p.seated p.closed c.requires.active c.requires.wrote
    c.start_stamp.new.self c.start_stamp.ensures.opened c.stamp.new.pass c.stamp.result c.stamp.ensures.answered)

pub returns-in-Later-clause-alone : goal.returns-in-Later-clause-alone
returns-in-Later-clause-alone g c whole =
    let ring = c.args.self.now in
    let pass = c.args.pass.now in
    let p = c.requires.of in
    stamp_alone g.S.Sense.good g.S.Sense.budget ring.words.shared.key ring.words.shared.table_id pass p.seated p.closed c.requires.active c.requires.wrote
    c.start_stamp.new.self c.start_stamp.ensures.opened c.stamp.new.pass c.stamp.result c.stamp.ensures.answered
    g.S.Sense.allows (subst (λ (s : Shape). 1 ≤ s.ring) (sym ring.told.1) ring.limits.some_entry) p c.stamp.ensures.of c.stamp.ensures.closed whole
    (stamp.Later c.in-Later.later)
    (subst (Says ring.words.shared.key pass c.stamp.new.pass) c.in-Later.is
    (stamp_said g.S.Sense.good g.S.Sense.budget ring.words.shared.key ring.words.shared.table_id pass p.seated p.closed c.requires.active c.requires.wrote
    c.start_stamp.new.self c.start_stamp.ensures.opened c.stamp.new.pass c.stamp.result c.stamp.ensures.answered))

pub returns-in-Stopped-clause-of : goal.returns-in-Stopped-clause-of
returns-in-Stopped-clause-of g c =
    let ring = c.args.self.now in
    let pass = c.args.pass.now in
    let p = c.requires.of in
    stamp_leaves g.S.Sense.good g.S.Sense.budget ring.words.shared.key ring.words.shared.table_id pass p.seated p.closed c.requires.active c.requires.wrote
    c.start_stamp.new.self c.start_stamp.ensures.opened c.stamp.new.pass c.stamp.result c.stamp.ensures.answered
    g.S.Sense.allows p c.stamp.ensures.of c.stamp.ensures.closed

pub returns-in-Stopped-clause-answer : goal.returns-in-Stopped-clause-answer
returns-in-Stopped-clause-answer g c =
    let ring = c.args.self.now in
    let pass = c.args.pass.now in
    let p = c.requires.of in
    subst (Says ring.words.shared.key pass c.stamp.new.pass) c.in-Stopped.is
    (stamp_said g.S.Sense.good g.S.Sense.budget ring.words.shared.key ring.words.shared.table_id pass p.seated p.closed c.requires.active c.requires.wrote
    c.start_stamp.new.self c.start_stamp.ensures.opened c.stamp.new.pass c.stamp.result c.stamp.ensures.answered)

pub returns-in-Stopped-clause-alone : goal.returns-in-Stopped-clause-alone
returns-in-Stopped-clause-alone g c whole =
    let ring = c.args.self.now in
    let pass = c.args.pass.now in
    let p = c.requires.of in
    stamp_alone g.S.Sense.good g.S.Sense.budget ring.words.shared.key ring.words.shared.table_id pass p.seated p.closed c.requires.active c.requires.wrote
    c.start_stamp.new.self c.start_stamp.ensures.opened c.stamp.new.pass c.stamp.result c.stamp.ensures.answered
    g.S.Sense.allows (subst (λ (s : Shape). 1 ≤ s.ring) (sym ring.told.1) ring.limits.some_entry) p c.stamp.ensures.of c.stamp.ensures.closed whole
    (stamp.Stopped c.in-Stopped.stop)
    (subst (Says ring.words.shared.key pass c.stamp.new.pass) c.in-Stopped.is
    (stamp_said g.S.Sense.good g.S.Sense.budget ring.words.shared.key ring.words.shared.table_id pass p.seated p.closed c.requires.active c.requires.wrote
    c.start_stamp.new.self c.start_stamp.ensures.opened c.stamp.new.pass c.stamp.result c.stamp.ensures.answered))

pub returns-in-Worn-clause-of : goal.returns-in-Worn-clause-of
returns-in-Worn-clause-of g c =
    let ring = c.args.self.now in
    let pass = c.args.pass.now in
    let p = c.requires.of in
    stamp_leaves g.S.Sense.good g.S.Sense.budget ring.words.shared.key ring.words.shared.table_id pass p.seated p.closed c.requires.active c.requires.wrote
    c.start_stamp.new.self c.start_stamp.ensures.opened c.stamp.new.pass c.stamp.result c.stamp.ensures.answered
    g.S.Sense.allows p c.stamp.ensures.of c.stamp.ensures.closed

pub returns-in-Worn-clause-answer : goal.returns-in-Worn-clause-answer
returns-in-Worn-clause-answer g c =
    let ring = c.args.self.now in
    let pass = c.args.pass.now in
    let p = c.requires.of in
    subst (Says ring.words.shared.key pass c.stamp.new.pass) c.in-Worn.is
    (stamp_said g.S.Sense.good g.S.Sense.budget ring.words.shared.key ring.words.shared.table_id pass p.seated p.closed c.requires.active c.requires.wrote
    c.start_stamp.new.self c.start_stamp.ensures.opened c.stamp.new.pass c.stamp.result c.stamp.ensures.answered)

pub unreachable-requires : goal.unreachable-requires
unreachable-requires g c =
    let ring = c.args.self.now in
    let pass = c.args.pass.now in
    let p = c.requires.of in
    nothing_else ring.words.shared.key pass c.stamp.new.pass c.stamp.result
    (stamp_said g.S.Sense.good g.S.Sense.budget ring.words.shared.key ring.words.shared.table_id pass p.seated p.closed c.requires.active c.requires.wrote
    c.start_stamp.new.self c.start_stamp.ensures.opened c.stamp.new.pass c.stamp.result c.stamp.ensures.answered)
    c.in_default.not-Stamped c.in_default.not-Later c.in_default.not-Stopped c.in_default.not-Worn

pub returns-in-Stamped-clause-few : goal.returns-in-Stamped-clause-few
returns-in-Stamped-clause-few g c =
    let ring = c.args.self.now in
    let p = c.requires.of in
    let shape = ring.words.shared.key.shape in
    stamp_few g.S.Sense.good g.S.Sense.budget ring.words.shared.key ring.words.shared.table_id c.args.pass.now p.seated p.closed c.requires.active
    c.requires.wrote c.start_stamp.new.self c.start_stamp.ensures.opened c.stamp.new.pass c.stamp.result c.stamp.ensures.answered
    (shape.ring * (shape.sig_words + 2) + 3)
    (subst (λ (s : Shape). steps_of c.start_stamp.new.self ≤ s.ring * (s.sig_words + 2) + 3) p.seated.shaped c.start_stamp.ensures.steps)

pub returns-in-Later-clause-few : goal.returns-in-Later-clause-few
returns-in-Later-clause-few g c =
    let ring = c.args.self.now in
    let p = c.requires.of in
    let shape = ring.words.shared.key.shape in
    stamp_few g.S.Sense.good g.S.Sense.budget ring.words.shared.key ring.words.shared.table_id c.args.pass.now p.seated p.closed c.requires.active
    c.requires.wrote c.start_stamp.new.self c.start_stamp.ensures.opened c.stamp.new.pass c.stamp.result c.stamp.ensures.answered
    (shape.ring * (shape.sig_words + 2) + 3)
    (subst (λ (s : Shape). steps_of c.start_stamp.new.self ≤ s.ring * (s.sig_words + 2) + 3) p.seated.shaped c.start_stamp.ensures.steps)

pub returns-in-Stopped-clause-few : goal.returns-in-Stopped-clause-few
returns-in-Stopped-clause-few g c =
    let ring = c.args.self.now in
    let p = c.requires.of in
    let shape = ring.words.shared.key.shape in
    stamp_few g.S.Sense.good g.S.Sense.budget ring.words.shared.key ring.words.shared.table_id c.args.pass.now p.seated p.closed c.requires.active
    c.requires.wrote c.start_stamp.new.self c.start_stamp.ensures.opened c.stamp.new.pass c.stamp.result c.stamp.ensures.answered
    (shape.ring * (shape.sig_words + 2) + 3)
    (subst (λ (s : Shape). steps_of c.start_stamp.new.self ≤ s.ring * (s.sig_words + 2) + 3) p.seated.shaped c.start_stamp.ensures.steps)

pub returns-in-Worn-clause-few : goal.returns-in-Worn-clause-few
returns-in-Worn-clause-few g c =
    let ring = c.args.self.now in
    let p = c.requires.of in
    let shape = ring.words.shared.key.shape in
    stamp_few g.S.Sense.good g.S.Sense.budget ring.words.shared.key ring.words.shared.table_id c.args.pass.now p.seated p.closed c.requires.active
    c.requires.wrote c.start_stamp.new.self c.start_stamp.ensures.opened c.stamp.new.pass c.stamp.result c.stamp.ensures.answered
    (shape.ring * (shape.sig_words + 2) + 3)
    (subst (λ (s : Shape). steps_of c.start_stamp.new.self ≤ s.ring * (s.sig_words + 2) + 3) p.seated.shaped c.start_stamp.ensures.steps)
