use Rattle.tx_model.proofs.lemmas.Stamps.{merged_stamps, merged_members}
use Rattle.tx_model.proofs.laws.memories.merged_stamps.Goals as goal

pub returns : goal.returns
returns c = record { rise = merged_stamps; members = merged_members }
