use Rattle.ring_worlds.proofs.worlds.Sealing.{may_seal, may_not_seal}
use Rattle.ring_worlds.proofs.laws.seal_examples.Goals as goal

pub returns : goal.returns
returns c = record { seals = may_seal; not_unread = may_not_seal }
