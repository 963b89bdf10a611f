use Rattle.ring_sig.proofs.Sets.{common_address_meet, no_common_address}
use Rattle.ring_sig.proofs.laws.common_addresses.Goals as goal

pub returns : goal.returns
returns c = record { meet = common_address_meet; none = no_common_address }
