use Rattle.std.proofs.lemmas.Grind.{common_steps}
use Rattle.std.proofs.Common.{arith}
use Rattle.tx_postings.proofs.filling.next_keys.Goals as goal

pub returns-clause-keys : goal.returns-clause-keys
returns-clause-keys c = grind (arith, common_steps)
