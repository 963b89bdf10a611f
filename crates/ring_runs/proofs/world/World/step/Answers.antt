-- The step is one of the world, which it leaves sound.
use Rattle.ring_runs.proofs.Making.{has_made, kept_after}
use Rattle.ring_runs.proofs.world.World.step.Goals as goal

pub invariant_of-self : goal.invariant_of-self
invariant_of-self c =
    kept_after c.steps_keep.ensures c.next_step.ensures.exists c.self.inside.plain c.self.invariant c.args.self.now c.self.view_is c.args.who c.requires
    c.step.new.self c.step.result
    c.step.ensures.stepped c.step.ensures.same

pub returns-clause-made : goal.returns-clause-made
returns-clause-made c =
    has_made c.steps_keep.ensures c.next_step.ensures.exists c.self.inside.plain c.self.invariant c.args.self.now c.self.view_is c.args.who c.requires
    c.step.new.self c.step.result c.step.ensures.stepped
