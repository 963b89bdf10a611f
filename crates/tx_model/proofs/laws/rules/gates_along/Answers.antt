use Rattle.tx_model.proofs.lemmas.Gates.{gates_rise, written_gate_rises, closed_after, words_stay, packed_stays}
use Rattle.tx_model.proofs.laws.rules.gates_along.Goals as goal

pub returns : goal.returns
returns c = record { rise = gates_rise; written = written_gate_rises; closed = closed_after; words = words_stay; packed = packed_stays }
