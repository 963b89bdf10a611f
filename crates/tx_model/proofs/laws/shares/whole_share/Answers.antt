use Rattle.tx_model.proofs.ShareLaws.{whole_alone}
use Rattle.tx_model.proofs.laws.shares.whole_share.Goals as goal

pub returns : goal.returns
returns c = whole_alone
