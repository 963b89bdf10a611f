use Rattle.std.proofs.Common.{refl}
use Rattle.ring_sig.specs.Signature.{place_of}
use Rattle.ring_sig.proofs.laws.places_table.Goals as goal

pub returns : goal.returns
unfolding place_of
returns c = record {
  zero = refl;
  one = refl;
  two = refl;
  three = refl;
  fifty_six = refl;
}
