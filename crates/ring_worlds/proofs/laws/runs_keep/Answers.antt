use Rattle.ring_worlds.proofs.worlds.Next.{runs_keep, reached_is_sound}
use Rattle.ring_worlds.proofs.laws.runs_keep.Goals as goal

pub returns-clause-keeps : goal.returns-clause-keeps
returns-clause-keeps c = runs_keep c.steps_keep.ensures c.moves_keep.ensures c.owned_stores_keep.ensures

pub returns-clause-reached : goal.returns-clause-reached
returns-clause-reached c = reached_is_sound c.opening_keeps.ensures (runs_keep c.steps_keep.ensures c.moves_keep.ensures c.owned_stores_keep.ensures)
