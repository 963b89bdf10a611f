-- The check is over where the index is the start, and goes on where it isn't.
use Rattle.std.proofs.Common.{◌≡◌, ◌∙◌, ap, arith, rules}
use Rattle.ring_core.specs.declared.shape.Shape.{Shape}
use Rattle.ring_core.specs.declared.stage.Stage.TheVariants.{Check}
use Rattle.ring_core.specs.declared.stage.Purpose.TheVariants.{Stamp}
use Rattle.ring_core.specs.declared.stage.CheckStage.TheVariants.{Index}
use Rattle.ring_core.specs.Machine.{Machine}
use Rattle.ring_words.proofs.TurnStores.{seated_at}
use Rattle.ring_words.specs.Pass.{with_local}
use Rattle.ring_words.specs.Stamping.{by_swap}
use Rattle.ring_words.proofs.StampSteps.{may_kept}
use Rattle.ring_words.proofs.StampLoads.{checked_seated, checked_goes, checked_answers, slot_seated, looked_seated, looked_goes, looked_answers, looked_stage}
use Rattle.ring_words.proofs.ring.Ring.stamp_straight.Goals as goal

pub load_at-top-requires-clause-of : goal.load_at-top-requires-clause-of
load_at-top-requires-clause-of g c =
    let ring = c.args.self.now in
    seated_at g.S.Sense.good g.S.Sense.budget ring.words.shared.key ring.words.shared.table_id c.args.pass.now (Check Stamp Index) c.requires.stage
    c.requires.of

pub returns-then-top-start-clause-of : goal.returns-then-top-start-clause-of
returns-then-top-start-clause-of g c =
    let ring = c.args.self.now in
    checked_seated g.S.Sense.good g.S.Sense.budget ring.words.shared.key ring.words.shared.table_id c.args.pass.now c.requires.of c.requires.active
    c.requires.stage
    c.load_at-top.new.pass c.load_at-top.ensures.local c.load_at-top.result c.load_at-top.ensures.found
    c.absorb_at.new.self c.absorb_at.result c.absorb_at.ensures.step c.absorb_at.ensures.shape c.absorb_at.ensures.steps

pub returns-then-top-start-clause-going : goal.returns-then-top-start-clause-going
returns-then-top-start-clause-going g c =
    let ring = c.args.self.now in
    checked_goes g.S.Sense.good g.S.Sense.budget ring.words.shared.key ring.words.shared.table_id c.args.pass.now c.requires.of c.requires.active
    c.requires.stage
    c.load_at-top.new.pass c.load_at-top.ensures.local c.load_at-top.result c.load_at-top.ensures.found
    c.absorb_at.new.self c.absorb_at.result c.absorb_at.ensures.step c.absorb_at.ensures.shape c.absorb_at.ensures.steps

pub returns-then-top-start-clause-answered : goal.returns-then-top-start-clause-answered
returns-then-top-start-clause-answered g c =
    let ring = c.args.self.now in
    checked_answers g.S.Sense.good g.S.Sense.budget ring.words.shared.key ring.words.shared.table_id c.args.pass.now c.requires.of c.requires.active
    c.requires.stage
    c.load_at-top.new.pass c.load_at-top.ensures.local c.load_at-top.result c.load_at-top.ensures.found
    c.absorb_at.new.self c.absorb_at.result c.absorb_at.ensures.step c.absorb_at.ensures.shape c.absorb_at.ensures.steps

pub returns-then-top-self-clause-of : goal.returns-then-top-self-clause-of
returns-then-top-self-clause-of g c =
    let ring = c.args.self.now in
    checked_seated g.S.Sense.good g.S.Sense.budget ring.words.shared.key ring.words.shared.table_id c.args.pass.now c.requires.of c.requires.active
    c.requires.stage
    c.load_at-top.new.pass c.load_at-top.ensures.local c.load_at-top.result c.load_at-top.ensures.found
    c.absorb_at-then-top-self.new.self c.absorb_at-then-top-self.result c.absorb_at-then-top-self.ensures.step
    c.absorb_at-then-top-self.ensures.shape c.absorb_at-then-top-self.ensures.steps

pub returns-then-top-self-clause-answered : goal.returns-then-top-self-clause-answered
returns-then-top-self-clause-answered g c =
    let ring = c.args.self.now in
    checked_answers g.S.Sense.good g.S.Sense.budget ring.words.shared.key ring.words.shared.table_id c.args.pass.now c.requires.of c.requires.active
    c.requires.stage
    c.load_at-top.new.pass c.load_at-top.ensures.local c.load_at-top.result c.load_at-top.ensures.found
    c.absorb_at-then-top-self.new.self c.absorb_at-then-top-self.result c.absorb_at-then-top-self.ensures.step
    c.absorb_at-then-top-self.ensures.shape c.absorb_at-then-top-self.ensures.steps

pub load_at-tag-requires-clause-of : goal.load_at-tag-requires-clause-of
load_at-tag-requires-clause-of g c =
    let ring = c.args.self.now in
    let current : c.load_at-top.result ≡ c.load_at-top.new.pass.local.caller.start = omega (arith, c.if-top-start.false, c.start.ensures) in
    let life : c.load_at-top.new.pass.local.shape.life ≡ ring.shape.life =
    ap (λ (m : Machine). m.shape.life) c.load_at-top.ensures.local ∙ ap (λ (s : Shape). s.life) (c.requires.of.shaped ∙ ring.told.1) in
    slot_seated g.S.Sense.good g.S.Sense.budget ring.words.shared.key ring.words.shared.table_id c.args.pass.now c.requires.of c.requires.active
    c.requires.stage
    c.load_at-top.new.pass c.load_at-top.ensures.local c.load_at-top.result c.load_at-top.ensures.found current (λ is. c.if-top-self.false (is ∙ life))

pub exchange-requires-clause-of : goal.exchange-requires-clause-of
exchange-requires-clause-of g c =
    let ring = c.args.self.now in
    let current : c.load_at-top.result ≡ c.load_at-top.new.pass.local.caller.start = omega (arith, c.if-top-start.false, c.start.ensures) in
    let life : c.load_at-top.new.pass.local.shape.life ≡ ring.shape.life =
    ap (λ (m : Machine). m.shape.life) c.load_at-top.ensures.local ∙ ap (λ (s : Shape). s.life) (c.requires.of.shaped ∙ ring.told.1) in
    looked_seated g.S.Sense.good g.S.Sense.budget ring.words.shared.key ring.words.shared.table_id c.args.pass.now c.requires.of c.requires.active
    c.requires.stage
    c.load_at-top.new.pass c.load_at-top.ensures.local c.load_at-top.result c.load_at-top.ensures.found current (λ is. c.if-top-self.false (is ∙ life))
    c.load_at-tag.new.pass c.load_at-tag.ensures.local c.load_at-tag.result c.load_at-tag.ensures.found
    c.take_at.new.self c.take_at.result c.take_at.ensures.step c.take_at.ensures.shape c.take_at.ensures.steps

pub exchange-requires-clause-stage : goal.exchange-requires-clause-stage
exchange-requires-clause-stage g c =
    looked_stage c.load_at-tag.new.pass.local.shape c.load_at-tag.new.pass.local.caller c.load_at-top.result c.load_at-tag.result
    c.take_at.new.self.caller c.take_at.result c.take_at.ensures.step c.in-Going.is

pub exchange-requires-clause-active : goal.exchange-requires-clause-active
exchange-requires-clause-active g c =
    let ring = c.args.self.now in
    let current : c.load_at-top.result ≡ c.load_at-top.new.pass.local.caller.start = omega (arith, c.if-top-start.false, c.start.ensures) in
    let life : c.load_at-top.new.pass.local.shape.life ≡ ring.shape.life =
    ap (λ (m : Machine). m.shape.life) c.load_at-top.ensures.local ∙ ap (λ (s : Shape). s.life) (c.requires.of.shaped ∙ ring.told.1) in
    (looked_goes g.S.Sense.good g.S.Sense.budget ring.words.shared.key ring.words.shared.table_id c.args.pass.now c.requires.of c.requires.active
    c.requires.stage
    c.load_at-top.new.pass c.load_at-top.ensures.local c.load_at-top.result c.load_at-top.ensures.found current (λ is. c.if-top-self.false (is ∙ life))
    c.load_at-tag.new.pass c.load_at-tag.ensures.local c.load_at-tag.result c.load_at-tag.ensures.found
    c.take_at.new.self c.take_at.result c.take_at.ensures.step c.take_at.ensures.shape c.take_at.ensures.steps c.in-Going.is).has.active

pub exchange-requires-clause-may : goal.exchange-requires-clause-may
exchange-requires-clause-may g c =
    let ring = c.args.self.now in
    let current : c.load_at-top.result ≡ c.load_at-top.new.pass.local.caller.start = omega (arith, c.if-top-start.false, c.start.ensures) in
    let life : c.load_at-top.new.pass.local.shape.life ≡ ring.shape.life =
    ap (λ (m : Machine). m.shape.life) c.load_at-top.ensures.local ∙ ap (λ (s : Shape). s.life) (c.requires.of.shaped ∙ ring.told.1) in
    may_kept g.S.Sense.good g.S.Sense.budget ring.words.shared.key c.args.pass.now
    (with_local c.load_at-tag.new.pass c.take_at.new.self)
    (looked_goes g.S.Sense.good g.S.Sense.budget ring.words.shared.key ring.words.shared.table_id c.args.pass.now c.requires.of c.requires.active
    c.requires.stage
    c.load_at-top.new.pass c.load_at-top.ensures.local c.load_at-top.result c.load_at-top.ensures.found current (λ is. c.if-top-self.false (is ∙ life))
    c.load_at-tag.new.pass c.load_at-tag.ensures.local c.load_at-tag.result c.load_at-tag.ensures.found
    c.take_at.new.self c.take_at.result c.take_at.ensures.step c.take_at.ensures.shape c.take_at.ensures.steps c.in-Going.is) c.requires.may

pub returns-in-Going-clause-answered : goal.returns-in-Going-clause-answered
returns-in-Going-clause-answered g c =
    let ring = c.args.self.now in
    let current : c.load_at-top.result ≡ c.load_at-top.new.pass.local.caller.start = omega (arith, c.if-top-start.false, c.start.ensures) in
    let life : c.load_at-top.new.pass.local.shape.life ≡ ring.shape.life =
    ap (λ (m : Machine). m.shape.life) c.load_at-top.ensures.local ∙ ap (λ (s : Shape). s.life) (c.requires.of.shaped ∙ ring.told.1) in
    λ over. by_swap (with_local c.load_at-tag.new.pass c.take_at.new.self)
    (looked_seated g.S.Sense.good g.S.Sense.budget ring.words.shared.key ring.words.shared.table_id c.args.pass.now c.requires.of c.requires.active
    c.requires.stage
    c.load_at-top.new.pass c.load_at-top.ensures.local c.load_at-top.result c.load_at-top.ensures.found current (λ is. c.if-top-self.false (is ∙ life))
    c.load_at-tag.new.pass c.load_at-tag.ensures.local c.load_at-tag.result c.load_at-tag.ensures.found
    c.take_at.new.self c.take_at.result c.take_at.ensures.step c.take_at.ensures.shape c.take_at.ensures.steps)
    (looked_goes g.S.Sense.good g.S.Sense.budget ring.words.shared.key ring.words.shared.table_id c.args.pass.now c.requires.of c.requires.active
    c.requires.stage
    c.load_at-top.new.pass c.load_at-top.ensures.local c.load_at-top.result c.load_at-top.ensures.found current (λ is. c.if-top-self.false (is ∙ life))
    c.load_at-tag.new.pass c.load_at-tag.ensures.local c.load_at-tag.result c.load_at-tag.ensures.found
    c.take_at.new.self c.take_at.result c.take_at.ensures.step c.take_at.ensures.shape c.take_at.ensures.steps c.in-Going.is)
    c.exchange.ensures.swapped c.exchange.ensures.steps

pub returns-in_default-clause-of : goal.returns-in_default-clause-of
returns-in_default-clause-of g c =
    let ring = c.args.self.now in
    let current : c.load_at-top.result ≡ c.load_at-top.new.pass.local.caller.start = omega (arith, c.if-top-start.false, c.start.ensures) in
    let life : c.load_at-top.new.pass.local.shape.life ≡ ring.shape.life =
    ap (λ (m : Machine). m.shape.life) c.load_at-top.ensures.local ∙ ap (λ (s : Shape). s.life) (c.requires.of.shaped ∙ ring.told.1) in
    looked_seated g.S.Sense.good g.S.Sense.budget ring.words.shared.key ring.words.shared.table_id c.args.pass.now c.requires.of c.requires.active
    c.requires.stage
    c.load_at-top.new.pass c.load_at-top.ensures.local c.load_at-top.result c.load_at-top.ensures.found current (λ is. c.if-top-self.false (is ∙ life))
    c.load_at-tag.new.pass c.load_at-tag.ensures.local c.load_at-tag.result c.load_at-tag.ensures.found
    c.take_at.new.self c.take_at.result c.take_at.ensures.step c.take_at.ensures.shape c.take_at.ensures.steps

pub returns-in_default-clause-answered : goal.returns-in_default-clause-answered
returns-in_default-clause-answered g c =
    let ring = c.args.self.now in
    let current : c.load_at-top.result ≡ c.load_at-top.new.pass.local.caller.start = omega (arith, c.if-top-start.false, c.start.ensures) in
    let life : c.load_at-top.new.pass.local.shape.life ≡ ring.shape.life =
    ap (λ (m : Machine). m.shape.life) c.load_at-top.ensures.local ∙ ap (λ (s : Shape). s.life) (c.requires.of.shaped ∙ ring.told.1) in
    λ over. looked_answers g.S.Sense.good g.S.Sense.budget ring.words.shared.key ring.words.shared.table_id c.args.pass.now c.requires.of
    c.requires.active c.requires.stage
    c.load_at-top.new.pass c.load_at-top.ensures.local c.load_at-top.result c.load_at-top.ensures.found current (λ is. c.if-top-self.false (is ∙ life))
    c.load_at-tag.new.pass c.load_at-tag.ensures.local c.load_at-tag.result c.load_at-tag.ensures.found
    c.take_at.new.self c.take_at.result c.take_at.ensures.step c.take_at.ensures.shape c.take_at.ensures.steps over

pub take_at-requires-clause-sound : goal.take_at-requires-clause-sound
take_at-requires-clause-sound g c = search rules
