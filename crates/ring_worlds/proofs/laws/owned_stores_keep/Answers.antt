use Rattle.ring_worlds.proofs.worlds.OwnedStore.{owned_store_keeps}
use Rattle.ring_worlds.proofs.laws.owned_stores_keep.Goals as goal

pub returns : goal.returns
returns c = owned_store_keeps
