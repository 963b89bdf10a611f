use Rattle.std.proofs.Common.{refl}
use Rattle.tx_model.specs.Words.{index_of}
use Rattle.ring_sig.specs.Signature.{place_of, meets, with_place}
use Rattle.ring_core.proofs.laws.turn_examples.Goals as goal

pub returns : goal.returns
unfolding place_of meets with_place index_of
returns c = record {
  earlier = (refl, refl);
  order = refl;
}
