use Rattle.ring_sig.proofs.Sets.{empty_signature, gains_front, gains_last, signature_exists}
use Rattle.ring_sig.proofs.laws.signature_gains.Goals as goal

pub returns : goal.returns
returns c = record { empty = empty_signature; front = gains_front; last = gains_last; exists = signature_exists }
