use Rattle.std.proofs.Common.{refl}
use Rattle.ring_core.proofs.laws.number_examples.Goals as goal

pub returns : goal.returns
returns c = record { tags = (refl, refl, refl, refl); kinds = (refl, refl, refl) }
