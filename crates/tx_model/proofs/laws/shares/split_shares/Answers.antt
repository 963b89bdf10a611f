use Rattle.tx_model.proofs.ShareLaws.{split_apart, split_others, halves_normal, halves_not_empty}
use Rattle.tx_model.proofs.laws.shares.split_shares.Goals as goal

pub returns : goal.returns
returns c = record { apart = split_apart; others = split_others; normal = halves_normal; not_empty = halves_not_empty }
