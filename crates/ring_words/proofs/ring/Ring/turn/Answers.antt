-- The commit is complete, or the turn waits for an earlier entry.
use Rattle.std.proofs.Common.{sym, subst, rules}
use Rattle.ring_core.specs.Shape.{IsShape}
use Rattle.ring_words.proofs.Knows.{pass_knows}
use Rattle.ring_words.proofs.TurnCalls.{turn_seated, turn_asks, turn_stamped, turned_counted, turned_finished, turned_waiting, turned_alone, turned_only, turned_few, turned_rose}
use Rattle.ring_words.proofs.ring.Ring.turn.Goals as goal

pub write_back-requires-clause-of : goal.write_back-requires-clause-of
write_back-requires-clause-of g c =
    let ring = c.args.self.now in
    turn_seated g.S.Sense.good g.S.Sense.budget ring.words.shared.key ring.words.shared.table_id c.args.pass.now c.requires.of.seated
    c.requires.of.closed c.requires.stamped c.move_keeps.ensures (subst IsShape (sym ring.told.1) ring.limits) c.moves_keep.ensures
    c.start_turn.new.self c.start_turn.ensures.opened c.start_turn.ensures.moved

pub write_back-requires-clause-stamped : goal.write_back-requires-clause-stamped
write_back-requires-clause-stamped g c =
    let ring = c.args.self.now in
    turn_stamped g.S.Sense.good g.S.Sense.budget ring.words.shared.key ring.words.shared.table_id c.args.pass.now c.requires.of.seated
    c.requires.of.closed c.requires.stamped c.move_keeps.ensures (subst IsShape (sym ring.told.1) ring.limits) c.moves_keep.ensures
    c.start_turn.new.self c.start_turn.ensures.opened c.start_turn.ensures.moved

pub write_back-requires-clause-turn : goal.write_back-requires-clause-turn
write_back-requires-clause-turn g c =
    let ring = c.args.self.now in
    turn_asks g.S.Sense.good g.S.Sense.budget ring.words.shared.key ring.words.shared.table_id c.args.pass.now c.requires.of.seated
    c.requires.of.closed c.requires.stamped c.move_keeps.ensures (subst IsShape (sym ring.told.1) ring.limits) c.moves_keep.ensures
    c.start_turn.new.self c.start_turn.ensures.opened c.start_turn.ensures.moved

pub unreachable-requires : goal.unreachable-requires
unreachable-requires g c =
    let ring = c.args.self.now in
    turned_only g.S.Sense.good g.S.Sense.budget ring.words.shared.key ring.words.shared.table_id c.args.pass.now c.requires.of.seated
    c.requires.of.closed c.requires.stamped c.move_keeps.ensures (subst IsShape (sym ring.told.1) ring.limits) c.moves_keep.ensures
    c.start_turn.new.self c.start_turn.ensures.opened c.start_turn.ensures.moved
    c.write_back.new.pass c.write_back.result c.write_back.ensures.answered c.in_default.not-Completed c.in_default.not-Later

pub returns-in-Completed-clause-of : goal.returns-in-Completed-clause-of
returns-in-Completed-clause-of g c =
    let ring = c.args.self.now in
    pass_knows g.S.Sense.allows g.S.Sense.good g.S.Sense.budget ring.words.shared.key ring.words.shared.table_id c.write_back.new.pass
    c.requires.of.is_made c.write_back.ensures.of c.write_back.ensures.closed
    (turned_counted g.S.Sense.good g.S.Sense.budget ring.words.shared.key ring.words.shared.table_id c.args.pass.now c.requires.of.seated
    c.requires.of.closed c.requires.stamped c.move_keeps.ensures (subst IsShape (sym ring.told.1) ring.limits) c.moves_keep.ensures
    c.start_turn.new.self c.start_turn.ensures.opened c.start_turn.ensures.moved
    c.write_back.new.pass c.write_back.result c.write_back.ensures.answered c.requires.of.is_pass.mine c.requires.of.counted)

pub returns-in-Later-clause-of : goal.returns-in-Later-clause-of
returns-in-Later-clause-of g c =
    let ring = c.args.self.now in
    pass_knows g.S.Sense.allows g.S.Sense.good g.S.Sense.budget ring.words.shared.key ring.words.shared.table_id c.write_back.new.pass
    c.requires.of.is_made c.write_back.ensures.of c.write_back.ensures.closed
    (turned_counted g.S.Sense.good g.S.Sense.budget ring.words.shared.key ring.words.shared.table_id c.args.pass.now c.requires.of.seated
    c.requires.of.closed c.requires.stamped c.move_keeps.ensures (subst IsShape (sym ring.told.1) ring.limits) c.moves_keep.ensures
    c.start_turn.new.self c.start_turn.ensures.opened c.start_turn.ensures.moved
    c.write_back.new.pass c.write_back.result c.write_back.ensures.answered c.requires.of.is_pass.mine c.requires.of.counted)

pub returns-in-Completed-clause-completed : goal.returns-in-Completed-clause-completed
returns-in-Completed-clause-completed g c =
    let ring = c.args.self.now in
    turned_finished g.S.Sense.good g.S.Sense.budget ring.words.shared.key ring.words.shared.table_id c.args.pass.now c.requires.of.seated
    c.requires.of.closed c.requires.stamped c.move_keeps.ensures (subst IsShape (sym ring.told.1) ring.limits) c.moves_keep.ensures
    c.start_turn.new.self c.start_turn.ensures.opened c.start_turn.ensures.moved
    c.write_back.new.pass c.write_back.result c.write_back.ensures.answered c.in-Completed.stamp c.in-Completed.is

pub returns-in-Later-clause-still : goal.returns-in-Later-clause-still
returns-in-Later-clause-still g c =
    let ring = c.args.self.now in
    (turned_waiting g.S.Sense.good g.S.Sense.budget ring.words.shared.key ring.words.shared.table_id c.args.pass.now c.requires.of.seated
    c.requires.of.closed c.requires.stamped c.move_keeps.ensures (subst IsShape (sym ring.told.1) ring.limits) c.moves_keep.ensures
    c.start_turn.new.self c.start_turn.ensures.opened c.start_turn.ensures.moved
    c.write_back.new.pass c.write_back.result c.write_back.ensures.answered c.in-Later.later c.in-Later.is).0

pub returns-in-Later-clause-order : goal.returns-in-Later-clause-order
returns-in-Later-clause-order g c =
    let ring = c.args.self.now in
    (turned_waiting g.S.Sense.good g.S.Sense.budget ring.words.shared.key ring.words.shared.table_id c.args.pass.now c.requires.of.seated
    c.requires.of.closed c.requires.stamped c.move_keeps.ensures (subst IsShape (sym ring.told.1) ring.limits) c.moves_keep.ensures
    c.start_turn.new.self c.start_turn.ensures.opened c.start_turn.ensures.moved
    c.write_back.new.pass c.write_back.result c.write_back.ensures.answered c.in-Later.later c.in-Later.is).1

pub returns-in-Later-clause-alone : goal.returns-in-Later-clause-alone
returns-in-Later-clause-alone g c =
    let ring = c.args.self.now in
    λ whole. turned_alone g.S.Sense.good g.S.Sense.budget ring.words.shared.key ring.words.shared.table_id c.args.pass.now c.requires.of.seated
    c.requires.of.closed c.requires.stamped c.move_keeps.ensures (subst IsShape (sym ring.told.1) ring.limits) c.moves_keep.ensures
    c.start_turn.new.self c.start_turn.ensures.opened c.start_turn.ensures.moved
    c.write_back.new.pass c.write_back.result c.write_back.ensures.answered whole c.in-Later.later c.in-Later.is

pub returns-in-Completed-clause-rose : goal.returns-in-Completed-clause-rose
returns-in-Completed-clause-rose g c =
    let ring = c.args.self.now in
    turned_rose g.S.Sense.good g.S.Sense.budget ring.words.shared.key ring.words.shared.table_id c.args.pass.now c.requires.of.seated
    c.requires.of.closed c.requires.stamped c.move_keeps.ensures (subst IsShape (sym ring.told.1) ring.limits) c.moves_keep.ensures
    c.start_turn.new.self c.start_turn.ensures.opened c.start_turn.ensures.moved
    c.write_back.new.pass c.write_back.result c.write_back.ensures.answered

pub returns-in-Completed-clause-few : goal.returns-in-Completed-clause-few
returns-in-Completed-clause-few g c =
    let ring = c.args.self.now in
    turned_few g.S.Sense.good g.S.Sense.budget ring.words.shared.key ring.words.shared.table_id c.args.pass.now c.requires.of.seated
    c.requires.of.closed c.requires.stamped c.move_keeps.ensures (subst IsShape (sym ring.told.1) ring.limits) c.moves_keep.ensures
    c.start_turn.new.self c.start_turn.ensures.opened c.start_turn.ensures.moved
    c.write_back.new.pass c.write_back.result c.write_back.ensures.answered c.start_turn.ensures.steps

pub returns-in-Later-clause-rose : goal.returns-in-Later-clause-rose
returns-in-Later-clause-rose g c =
    let ring = c.args.self.now in
    turned_rose g.S.Sense.good g.S.Sense.budget ring.words.shared.key ring.words.shared.table_id c.args.pass.now c.requires.of.seated
    c.requires.of.closed c.requires.stamped c.move_keeps.ensures (subst IsShape (sym ring.told.1) ring.limits) c.moves_keep.ensures
    c.start_turn.new.self c.start_turn.ensures.opened c.start_turn.ensures.moved
    c.write_back.new.pass c.write_back.result c.write_back.ensures.answered

pub returns-in-Later-clause-few : goal.returns-in-Later-clause-few
returns-in-Later-clause-few g c =
    let ring = c.args.self.now in
    turned_few g.S.Sense.good g.S.Sense.budget ring.words.shared.key ring.words.shared.table_id c.args.pass.now c.requires.of.seated
    c.requires.of.closed c.requires.stamped c.move_keeps.ensures (subst IsShape (sym ring.told.1) ring.limits) c.moves_keep.ensures
    c.start_turn.new.self c.start_turn.ensures.opened c.start_turn.ensures.moved
    c.write_back.new.pass c.write_back.result c.write_back.ensures.answered c.start_turn.ensures.steps

pub returns-in-Later-clause-completed : goal.returns-in-Later-clause-completed
returns-in-Later-clause-completed g c = search rules
