use Rattle.tx_model.proofs.ShareLaws.{joined_apart, joined_apart_others, joined_normal, joined_not_empty}
use Rattle.tx_model.proofs.laws.shares.joined_shares.Goals as goal

pub returns : goal.returns
returns c =
    record { apart = joined_apart; others = joined_apart_others; normal = joined_normal; not_empty = joined_not_empty }
