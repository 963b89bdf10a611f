-- The last store ends the turn.
use Rattle.ring_core.specs.declared.stage.Stage.TheVariants.{Turn}
use Rattle.ring_core.specs.declared.stage.TurnStage.TheVariants.{Complete}
use Rattle.ring_words.specs.Pass.{staged}
use Rattle.ring_words.proofs.Turning.{turning_itself}
use Rattle.ring_words.proofs.TurnStores.{after_seated, after_answers, over_after_complete}
use Rattle.ring_words.proofs.ring.Ring.store_complete.Goals as goal

pub returns-clause-of : goal.returns-clause-of
returns-clause-of g c =
    let ring = c.args.self.now in
    let first = staged c.args.pass.now (Turn Complete) in
    after_seated g.S.Sense.good g.S.Sense.budget ring.words.shared.key ring.words.shared.table_id first c.args.pass.now (Turn Complete)
    (turning_itself first c.requires.stamped tt) c.requires.of c.store_to.new.pass c.store_to.ensures.local 0 c.store_to.ensures.found
    c.take_at.new.self c.take_at.result c.take_at.ensures.step c.take_at.ensures.shape c.take_at.ensures.steps

pub returns-clause-over : goal.returns-clause-over
returns-clause-over g c =
    over_after_complete c.store_to.new.pass.local.shape c.store_to.new.pass.local.caller c.take_at.new.self.caller c.take_at.result c.take_at.ensures.step

pub returns-clause-closed : goal.returns-clause-closed
returns-clause-closed g c =
    c.take_at.ensures.ends.0
    (over_after_complete c.store_to.new.pass.local.shape c.store_to.new.pass.local.caller c.take_at.new.self.caller c.take_at.result c.take_at.ensures.step)

pub returns-clause-answered : goal.returns-clause-answered
returns-clause-answered g c =
    let ring = c.args.self.now in
    let first = staged c.args.pass.now (Turn Complete) in
    after_answers g.S.Sense.good g.S.Sense.budget ring.words.shared.key ring.words.shared.table_id first c.args.pass.now (Turn Complete)
    (turning_itself first c.requires.stamped tt) c.requires.of c.store_to.new.pass c.store_to.ensures.local 0 c.store_to.ensures.found
    c.take_at.new.self c.take_at.result c.take_at.ensures.step c.take_at.ensures.shape c.take_at.ensures.steps
    (over_after_complete c.store_to.new.pass.local.shape c.store_to.new.pass.local.caller c.take_at.new.self.caller c.take_at.result c.take_at.ensures.step)
