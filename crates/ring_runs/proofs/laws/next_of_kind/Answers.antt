-- The step of the world is of the kind that the caller's stage says.
use Rattle.ring_runs.proofs.Making.{tells_all}
use Rattle.ring_runs.proofs.laws.next_of_kind.Goals as goal

pub returns-clause-law : goal.returns-clause-law
returns-clause-law c kind is =
    tells_all c.steps_keep.ensures c.args.world.now c.step.new.self c.args.who c.is_sound.ensures c.step.result c.step.ensures.made kind is
