use Rattle.ring_worlds.proofs.worlds.Laws.{each_kind}
use Rattle.ring_worlds.proofs.laws.steps_keep.Goals as goal

pub returns : goal.returns
returns c = each_kind c.step_keeps.ensures c.signatures_meet.ensures
