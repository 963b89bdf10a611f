use Rattle.tx_model.proofs.lemmas.Gates.{gate_rises, writes_below, ends_above, carries_no_gate}
use Rattle.tx_model.proofs.laws.rules.commits_follow.Goals as goal

pub returns : goal.returns
returns c = record { rises = gate_rises; below = writes_below; above = ends_above; carries = carries_no_gate }
