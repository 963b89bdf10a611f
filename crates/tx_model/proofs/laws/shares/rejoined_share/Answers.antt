use Rattle.tx_model.proofs.ShareLaws.{rejoined}
use Rattle.tx_model.proofs.laws.shares.rejoined_share.Goals as goal

pub returns : goal.returns
returns c = rejoined
