use Rattle.std.proofs.Common.{refl}
use Rattle.ring_sig.specs.Signature.{place_of, meets, with_place}
use Rattle.ring_sig.proofs.laws.sharing_example.Goals as goal

pub returns : goal.returns
unfolding place_of meets with_place
returns c = refl
