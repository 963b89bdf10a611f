use Rattle.tx_model.proofs.lemmas.States.{budget_bounds}
use Rattle.tx_model.proofs.laws.memories.budget_bounds.Goals as goal

pub returns : goal.returns
returns g c opening = budget_bounds _ _ opening
