use Rattle.ring_sig.proofs.Sets.{sets_meet}
use Rattle.ring_sig.proofs.laws.signatures_meet.Goals as goal

pub returns : goal.returns
returns c = sets_meet
