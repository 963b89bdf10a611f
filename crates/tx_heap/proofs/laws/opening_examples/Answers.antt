-- The opening of any lists is good.
use Rattle.std.proofs.Common.{arith}
use Rattle.tx_heap.specs.OpeningLaw.{length-opening}
use Rattle.tx_heap.specs.Examples.{three_lists}
use Rattle.tx_heap.proofs.lemmas.Opening.{opening_good, opening_has_no_rows}
use Rattle.tx_heap.proofs.laws.opening_examples.Goals as goal

pub returns-clause-good : goal.returns-clause-good
returns-clause-good c = opening_good three_lists

pub returns-clause-size : goal.returns-clause-size
returns-clause-size c = length-opening three_lists 8 (omega arith)

pub returns-clause-rows : goal.returns-clause-rows
returns-clause-rows c = opening_has_no_rows three_lists
