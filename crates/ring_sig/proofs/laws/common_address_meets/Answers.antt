use Rattle.ring_sig.proofs.Sets.{common_address}
use Rattle.ring_sig.proofs.laws.common_address_meets.Goals as goal

pub returns : goal.returns
returns c = common_address
