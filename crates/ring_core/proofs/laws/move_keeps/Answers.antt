use Rattle.ring_core.proofs.MovesKept.{moved_keeps}
use Rattle.ring_core.proofs.laws.move_keeps.Goals as goal

pub returns : goal.returns
returns c shape good caller moved sound move =
    moved_keeps c.put_addresses.ensures.apart c.put_addresses.ensures.addresses shape good caller sound moved move
