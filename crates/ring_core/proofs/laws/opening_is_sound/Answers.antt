use Rattle.ring_core.proofs.MovesKept.{opening_sound}
use Rattle.ring_core.proofs.laws.opening_is_sound.Goals as goal

pub returns : goal.returns
returns c = opening_sound
