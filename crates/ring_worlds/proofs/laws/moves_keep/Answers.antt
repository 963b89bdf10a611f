use Rattle.ring_worlds.proofs.worlds.Moves.{moves_keep}
use Rattle.ring_worlds.proofs.laws.moves_keep.Goals as goal

pub returns : goal.returns
returns c = moves_keep c.move_keeps.ensures
