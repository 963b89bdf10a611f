use Rattle.std.proofs.Common.{rules}
use Rattle.tx_buckets.proofs.adding.cell_words.Goals as goal

pub returns : goal.returns
returns c = search rules
