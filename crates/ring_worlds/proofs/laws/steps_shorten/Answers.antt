use Rattle.ring_worlds.proofs.worlds.Shorter.{steps_shorten}
use Rattle.ring_worlds.proofs.laws.steps_shorten.Goals as goal

pub returns : goal.returns
returns c = steps_shorten c.next_step.ensures.absorbs
