-- The turn ends, or waits for the entry before.
use Rattle.std.proofs.Common.{◌≡◌, ◌+◌, ◌-◌, ◌*◌, ◌≤◌, sym, ◌∙◌, ap, subst, arith}
use Rattle.ring_core.specs.declared.stage.Stage.TheVariants.{Turn}
use Rattle.ring_core.specs.declared.stage.TurnStage.{TurnStage}
use Rattle.ring_core.specs.declared.stage.TurnStage.TheVariants.{Before, Complete}
use Rattle.ring_core.specs.Machine.{Machine}
use Rattle.ring_words.specs.Pass.{IsSeated, with_local, staged}
use Rattle.ring_words.specs.Turns.{IsTurning, TurnAnswered, after_words}
use Rattle.ring_words.proofs.Turning.{turning_itself}
use Rattle.ring_words.proofs.TurnStores.{after_only, after_others, after_seated, after_turning, after_answers, done_seated, done_turning, answered_then}
use Rattle.ring_words.proofs.ring.Ring.end_turn.Goals as goal

pub store_complete-requires-clause-of : goal.store_complete-requires-clause-of
store_complete-requires-clause-of g c =
    let ring = c.args.self.now in
    let pass = c.args.pass.now in
    let is : after_words pass.local.caller.stamp ≡ Complete = after_only pass.local.caller.stamp (sym c.stamp-stamp.ensures ∙ c.if-stamp-eq1.true) in
    subst (λ (inner : TurnStage). IsSeated g.S.Sense.good g.S.Sense.budget ring.words.shared.key ring.words.shared.table_id (staged pass (Turn
    inner))) is c.requires.of

pub returns-then-stamp-eq1-clause-going : goal.returns-then-stamp-eq1-clause-going
returns-then-stamp-eq1-clause-going g c = λ goes. absurd (c.store_complete.ensures.over goes)

pub returns-then-stamp-eq1-clause-answered : goal.returns-then-stamp-eq1-clause-answered
returns-then-stamp-eq1-clause-answered g c =
    let ring = c.args.self.now in
    let pass = c.args.pass.now in
    let is : after_words pass.local.caller.stamp ≡ Complete = after_only pass.local.caller.stamp (sym c.stamp-stamp.ensures ∙ c.if-stamp-eq1.true) in
    λ over. subst (λ (inner : TurnStage). TurnAnswered g.S.Sense.good g.S.Sense.budget ring.words.shared.key ring.words.shared.table_id (staged pass
    (Turn inner)) c.store_complete.new.pass c.store_complete.result)
    (sym is) c.store_complete.ensures.answered

pub load_at-tag-requires-clause-of : goal.load_at-tag-requires-clause-of
load_at-tag-requires-clause-of g c =
    let ring = c.args.self.now in
    let pass = c.args.pass.now in
    let is : after_words pass.local.caller.stamp ≡ Before = after_others pass.local.caller.stamp (λ only. c.if-stamp-eq1.false (c.stamp-stamp.ensures
    ∙ only)) in
    let first = staged pass (Turn Before) in
    let seated : IsSeated g.S.Sense.good g.S.Sense.budget ring.words.shared.key ring.words.shared.table_id first = subst (λ (inner : TurnStage).
    IsSeated g.S.Sense.good g.S.Sense.budget ring.words.shared.key ring.words.shared.table_id (staged pass (Turn inner))) is c.requires.of in
    let turning : IsTurning first first = turning_itself first c.requires.stamped tt in
    seated

pub returns-then-tag-complete-clause-of : goal.returns-then-tag-complete-clause-of
returns-then-tag-complete-clause-of g c =
    let ring = c.args.self.now in
    let pass = c.args.pass.now in
    let is : after_words pass.local.caller.stamp ≡ Before = after_others pass.local.caller.stamp (λ only. c.if-stamp-eq1.false (c.stamp-stamp.ensures
    ∙ only)) in
    let first = staged pass (Turn Before) in
    let seated : IsSeated g.S.Sense.good g.S.Sense.budget ring.words.shared.key ring.words.shared.table_id first = subst (λ (inner : TurnStage).
    IsSeated g.S.Sense.good g.S.Sense.budget ring.words.shared.key ring.words.shared.table_id (staged pass (Turn inner))) is c.requires.of in
    let turning : IsTurning first first = turning_itself first c.requires.stamped tt in
    after_seated g.S.Sense.good g.S.Sense.budget ring.words.shared.key ring.words.shared.table_id first pass (Turn Before) turning seated
    c.load_at-tag.new.pass c.load_at-tag.ensures.local
    c.load_at-tag.result c.load_at-tag.ensures.found c.absorb_at.new.self c.absorb_at.result c.absorb_at.ensures.step c.absorb_at.ensures.shape
    c.absorb_at.ensures.steps

pub returns-then-tag-complete-clause-going : goal.returns-then-tag-complete-clause-going
returns-then-tag-complete-clause-going g c =
    let ring = c.args.self.now in
    let pass = c.args.pass.now in
    let is : after_words pass.local.caller.stamp ≡ Before = after_others pass.local.caller.stamp (λ only. c.if-stamp-eq1.false (c.stamp-stamp.ensures
    ∙ only)) in
    let first = staged pass (Turn Before) in
    let seated : IsSeated g.S.Sense.good g.S.Sense.budget ring.words.shared.key ring.words.shared.table_id first = subst (λ (inner : TurnStage).
    IsSeated g.S.Sense.good g.S.Sense.budget ring.words.shared.key ring.words.shared.table_id (staged pass (Turn inner))) is c.requires.of in
    let turning : IsTurning first first = turning_itself first c.requires.stamped tt in
    λ goes. subst (λ (inner : TurnStage). IsTurning (staged pass (Turn inner)) (with_local c.load_at-tag.new.pass c.absorb_at.new.self)) (sym is)
    (after_turning g.S.Sense.good g.S.Sense.budget ring.words.shared.key ring.words.shared.table_id first pass (Turn Before) turning seated
    c.load_at-tag.new.pass c.load_at-tag.ensures.local
    c.load_at-tag.result c.load_at-tag.ensures.found c.absorb_at.new.self c.absorb_at.result c.absorb_at.ensures.step c.absorb_at.ensures.shape
    c.absorb_at.ensures.steps goes)

pub returns-then-tag-complete-clause-answered : goal.returns-then-tag-complete-clause-answered
returns-then-tag-complete-clause-answered g c =
    let ring = c.args.self.now in
    let pass = c.args.pass.now in
    let is : after_words pass.local.caller.stamp ≡ Before = after_others pass.local.caller.stamp (λ only. c.if-stamp-eq1.false (c.stamp-stamp.ensures
    ∙ only)) in
    let first = staged pass (Turn Before) in
    let seated : IsSeated g.S.Sense.good g.S.Sense.budget ring.words.shared.key ring.words.shared.table_id first = subst (λ (inner : TurnStage).
    IsSeated g.S.Sense.good g.S.Sense.budget ring.words.shared.key ring.words.shared.table_id (staged pass (Turn inner))) is c.requires.of in
    let turning : IsTurning first first = turning_itself first c.requires.stamped tt in
    λ over. subst (λ (inner : TurnStage). TurnAnswered g.S.Sense.good g.S.Sense.budget ring.words.shared.key ring.words.shared.table_id (staged pass
    (Turn inner)) (with_local c.load_at-tag.new.pass c.absorb_at.new.self) c.absorb_at.result) (sym is)
    (after_answers g.S.Sense.good g.S.Sense.budget ring.words.shared.key ring.words.shared.table_id first pass (Turn Before) turning seated
    c.load_at-tag.new.pass c.load_at-tag.ensures.local
    c.load_at-tag.result c.load_at-tag.ensures.found c.absorb_at.new.self c.absorb_at.result c.absorb_at.ensures.step c.absorb_at.ensures.shape
    c.absorb_at.ensures.steps over)

pub store_complete-requires-2-clause-of : goal.store_complete-requires-2-clause-of
store_complete-requires-2-clause-of g c =
    let ring = c.args.self.now in
    let pass = c.args.pass.now in
    let is : after_words pass.local.caller.stamp ≡ Before = after_others pass.local.caller.stamp (λ only. c.if-stamp-eq1.false (c.stamp-stamp.ensures
    ∙ only)) in
    let first = staged pass (Turn Before) in
    let seated : IsSeated g.S.Sense.good g.S.Sense.budget ring.words.shared.key ring.words.shared.table_id first = subst (λ (inner : TurnStage).
    IsSeated g.S.Sense.good g.S.Sense.budget ring.words.shared.key ring.words.shared.table_id (staged pass (Turn inner))) is c.requires.of in
    let turning : IsTurning first first = turning_itself first c.requires.stamped tt in
    let done : 4 * (c.load_at-tag.new.pass.local.caller.stamp - 1) + 3 ≤ c.load_at-tag.result =
    omega (arith, c.if-tag-complete.false, c.complete.ensures, c.stamp-stamp.ensures, ap (λ (m : Machine). m.caller.stamp) c.load_at-tag.ensures.local) in
    let end = staged c.load_at-tag.new.pass (Turn Complete) in
    let end_seated : IsSeated g.S.Sense.good g.S.Sense.budget ring.words.shared.key ring.words.shared.table_id end =
    done_seated g.S.Sense.good g.S.Sense.budget ring.words.shared.key ring.words.shared.table_id first pass seated turning c.load_at-tag.new.pass
    c.load_at-tag.ensures.local
    c.load_at-tag.result c.load_at-tag.ensures.found done in
    let end_turning : IsTurning first end =
    done_turning g.S.Sense.good g.S.Sense.budget ring.words.shared.key ring.words.shared.table_id first pass seated turning c.load_at-tag.new.pass
    c.load_at-tag.ensures.local
    c.load_at-tag.result c.load_at-tag.ensures.found done in
    end_seated

pub returns-clause-going : goal.returns-clause-going
returns-clause-going g c = λ goes. absurd (c.store_complete-2.ensures.over goes)

pub returns-clause-answered : goal.returns-clause-answered
returns-clause-answered g c =
    let ring = c.args.self.now in
    let pass = c.args.pass.now in
    let is : after_words pass.local.caller.stamp ≡ Before = after_others pass.local.caller.stamp (λ only. c.if-stamp-eq1.false (c.stamp-stamp.ensures
    ∙ only)) in
    let first = staged pass (Turn Before) in
    let seated : IsSeated g.S.Sense.good g.S.Sense.budget ring.words.shared.key ring.words.shared.table_id first = subst (λ (inner : TurnStage).
    IsSeated g.S.Sense.good g.S.Sense.budget ring.words.shared.key ring.words.shared.table_id (staged pass (Turn inner))) is c.requires.of in
    let turning : IsTurning first first = turning_itself first c.requires.stamped tt in
    let done : 4 * (c.load_at-tag.new.pass.local.caller.stamp - 1) + 3 ≤ c.load_at-tag.result =
    omega (arith, c.if-tag-complete.false, c.complete.ensures, c.stamp-stamp.ensures, ap (λ (m : Machine). m.caller.stamp) c.load_at-tag.ensures.local) in
    let end = staged c.load_at-tag.new.pass (Turn Complete) in
    let end_seated : IsSeated g.S.Sense.good g.S.Sense.budget ring.words.shared.key ring.words.shared.table_id end =
    done_seated g.S.Sense.good g.S.Sense.budget ring.words.shared.key ring.words.shared.table_id first pass seated turning c.load_at-tag.new.pass
    c.load_at-tag.ensures.local
    c.load_at-tag.result c.load_at-tag.ensures.found done in
    let end_turning : IsTurning first end =
    done_turning g.S.Sense.good g.S.Sense.budget ring.words.shared.key ring.words.shared.table_id first pass seated turning c.load_at-tag.new.pass
    c.load_at-tag.ensures.local
    c.load_at-tag.result c.load_at-tag.ensures.found done in
    λ over. subst (λ (inner : TurnStage). TurnAnswered g.S.Sense.good g.S.Sense.budget ring.words.shared.key ring.words.shared.table_id (staged pass
    (Turn inner)) c.store_complete-2.new.pass c.store_complete-2.result) (sym is)
    (answered_then g.S.Sense.good g.S.Sense.budget ring.words.shared.key ring.words.shared.table_id first end c.store_complete-2.new.pass
    c.store_complete-2.result end_turning
    c.store_complete-2.ensures.answered)
