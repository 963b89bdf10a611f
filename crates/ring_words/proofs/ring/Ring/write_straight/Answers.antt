-- The turn goes on, waits, or was answered.
use Rattle.std.proofs.Common.{◌≡◌, ◌+◌, sym, subst, arith}
use Rattle.ring_core.specs.declared.stage.Stage.{Stage}
use Rattle.ring_core.specs.declared.stage.Stage.TheVariants.{Turn}
use Rattle.ring_core.specs.declared.stage.TurnStage.TheVariants.{Heap}
use Rattle.ring_core.specs.Machine.{Machine}
use Rattle.ring_words.specs.Pass.{IsSeated, staged}
use Rattle.ring_words.specs.Turns.{IsTurning, after_words}
use Rattle.ring_words.proofs.Turning.{turning_then}
use Rattle.ring_words.proofs.TurnStores.{at_once_seated, at_once_turning, waiting_seated, waiting_turning, goes_after_writing, answered_then}
use Rattle.ring_words.proofs.ring.Ring.write_straight.Goals as goal

pub returns-then-stamp-start-clause-of : goal.returns-then-stamp-start-clause-of
returns-then-stamp-start-clause-of g c =
    let ring = c.args.self.now in
    let pass = c.args.pass.now in
    let mid = c.publish-own.new.pass in
    let end = c.store_to.new.pass in
    waiting_seated g.S.Sense.good g.S.Sense.budget ring.words.shared.key ring.words.shared.table_id pass mid c.publish-own.ensures.of
    c.publish-own.ensures.turning
    end c.store_to.ensures.local c.store_to.ensures.found c.absorb_at.new.self c.absorb_at.result c.absorb_at.ensures.step c.absorb_at.ensures.shape
    c.absorb_at.ensures.steps

pub returns-then-stamp-start-clause-going : goal.returns-then-stamp-start-clause-going
returns-then-stamp-start-clause-going g c =
    let ring = c.args.self.now in
    let pass = c.args.pass.now in
    let mid = c.publish-own.new.pass in
    let end = c.store_to.new.pass in
    λ goes. waiting_turning g.S.Sense.good g.S.Sense.budget ring.words.shared.key ring.words.shared.table_id pass mid c.publish-own.ensures.of
    c.publish-own.ensures.turning
    end c.store_to.ensures.local c.store_to.ensures.found c.absorb_at.new.self c.absorb_at.result c.absorb_at.ensures.step c.absorb_at.ensures.shape
    c.absorb_at.ensures.steps

pub returns-then-stamp-start-clause-answered : goal.returns-then-stamp-start-clause-answered
returns-then-stamp-start-clause-answered g c =
    let ring = c.args.self.now in
    let pass = c.args.pass.now in
    let mid = c.publish-own.new.pass in
    let end = c.store_to.new.pass in
    λ over. absurd (over (goes_after_writing end.local.shape end.local.caller c.absorb_at.new.self.caller c.absorb_at.result c.absorb_at.ensures.step))

pub store_words-requires-clause-of : goal.store_words-requires-clause-of
store_words-requires-clause-of g c =
    let ring = c.args.self.now in
    let pass = c.args.pass.now in
    let mid = c.publish-own.new.pass in
    let end = c.store_to.new.pass in
    let next : end.local.caller.stamp ≡ end.local.caller.start + 1 = omega (arith, c.if-stamp-start.false, c.stamp.ensures, c.start.ensures) in
    let seated : IsSeated g.S.Sense.good g.S.Sense.budget ring.words.shared.key ring.words.shared.table_id (staged end (Turn (Heap 0))) =
    at_once_seated g.S.Sense.good g.S.Sense.budget ring.words.shared.key ring.words.shared.table_id pass mid c.publish-own.ensures.of
    c.publish-own.ensures.turning
    end c.store_to.ensures.local c.store_to.ensures.found next in
    let turning : IsTurning pass (staged end (Turn (Heap 0))) =
    at_once_turning g.S.Sense.good g.S.Sense.budget ring.words.shared.key ring.words.shared.table_id pass mid c.publish-own.ensures.of
    c.publish-own.ensures.turning
    end c.store_to.ensures.local c.store_to.ensures.found next in
    seated

pub end_turn-requires-clause-of : goal.end_turn-requires-clause-of
end_turn-requires-clause-of g c =
    let ring = c.args.self.now in
    let pass = c.args.pass.now in
    let mid = c.publish-own.new.pass in
    let end = c.store_to.new.pass in
    let stored = c.store_words.new.pass in
    subst (λ (m : Machine). IsSeated g.S.Sense.good g.S.Sense.budget ring.words.shared.key ring.words.shared.table_id (staged stored (Turn
    (after_words m.caller.stamp))))
    (sym c.store_words.ensures.local) c.store_words.ensures.of

pub returns-clause-going : goal.returns-clause-going
returns-clause-going g c =
    let ring = c.args.self.now in
    let pass = c.args.pass.now in
    let mid = c.publish-own.new.pass in
    let end = c.store_to.new.pass in
    let next : end.local.caller.stamp ≡ end.local.caller.start + 1 = omega (arith, c.if-stamp-start.false, c.stamp.ensures, c.start.ensures) in
    let seated : IsSeated g.S.Sense.good g.S.Sense.budget ring.words.shared.key ring.words.shared.table_id (staged end (Turn (Heap 0))) =
    at_once_seated g.S.Sense.good g.S.Sense.budget ring.words.shared.key ring.words.shared.table_id pass mid c.publish-own.ensures.of
    c.publish-own.ensures.turning
    end c.store_to.ensures.local c.store_to.ensures.found next in
    let turning : IsTurning pass (staged end (Turn (Heap 0))) =
    at_once_turning g.S.Sense.good g.S.Sense.budget ring.words.shared.key ring.words.shared.table_id pass mid c.publish-own.ensures.of
    c.publish-own.ensures.turning
    end c.store_to.ensures.local c.store_to.ensures.found next in
    let stored = c.store_words.new.pass in
    let same : stored.local ≡ end.local = c.store_words.ensures.local in
    let after : Stage = Turn (after_words end.local.caller.stamp) in
    let ended : IsTurning pass (staged stored (Turn (after_words stored.local.caller.stamp))) =
    subst (λ (m : Machine). IsTurning pass (staged stored (Turn (after_words m.caller.stamp)))) (sym same)
    (turning_then pass (staged end (Turn (Heap 0))) (staged stored after) turning c.store_words.ensures.turning) in
    λ goes. turning_then pass (staged stored (Turn (after_words stored.local.caller.stamp))) c.end_turn.new.pass ended (c.end_turn.ensures.going goes)

pub returns-clause-answered : goal.returns-clause-answered
returns-clause-answered g c =
    let ring = c.args.self.now in
    let pass = c.args.pass.now in
    let mid = c.publish-own.new.pass in
    let end = c.store_to.new.pass in
    let next : end.local.caller.stamp ≡ end.local.caller.start + 1 = omega (arith, c.if-stamp-start.false, c.stamp.ensures, c.start.ensures) in
    let seated : IsSeated g.S.Sense.good g.S.Sense.budget ring.words.shared.key ring.words.shared.table_id (staged end (Turn (Heap 0))) =
    at_once_seated g.S.Sense.good g.S.Sense.budget ring.words.shared.key ring.words.shared.table_id pass mid c.publish-own.ensures.of
    c.publish-own.ensures.turning
    end c.store_to.ensures.local c.store_to.ensures.found next in
    let turning : IsTurning pass (staged end (Turn (Heap 0))) =
    at_once_turning g.S.Sense.good g.S.Sense.budget ring.words.shared.key ring.words.shared.table_id pass mid c.publish-own.ensures.of
    c.publish-own.ensures.turning
    end c.store_to.ensures.local c.store_to.ensures.found next in
    let stored = c.store_words.new.pass in
    let same : stored.local ≡ end.local = c.store_words.ensures.local in
    let after : Stage = Turn (after_words end.local.caller.stamp) in
    let ended : IsTurning pass (staged stored (Turn (after_words stored.local.caller.stamp))) =
    subst (λ (m : Machine). IsTurning pass (staged stored (Turn (after_words m.caller.stamp)))) (sym same)
    (turning_then pass (staged end (Turn (Heap 0))) (staged stored after) turning c.store_words.ensures.turning) in
    λ over. answered_then g.S.Sense.good g.S.Sense.budget ring.words.shared.key ring.words.shared.table_id pass
    (staged stored (Turn (after_words stored.local.caller.stamp))) c.end_turn.new.pass c.end_turn.result ended (c.end_turn.ensures.answered over)
