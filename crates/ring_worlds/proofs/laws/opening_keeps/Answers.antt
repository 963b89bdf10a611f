use Rattle.ring_worlds.proofs.worlds.Opens.{opens}
use Rattle.ring_worlds.proofs.laws.opening_keeps.Goals as goal

pub returns : goal.returns
returns c = opens c.opening_is_sound.ensures
