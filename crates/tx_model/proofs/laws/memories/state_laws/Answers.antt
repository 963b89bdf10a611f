use Rattle.tx_model.proofs.lemmas.States.{state_length, state_after, stays}
use Rattle.tx_model.proofs.laws.memories.state_laws.Goals as goal

pub returns : goal.returns
returns c = record { length = state_length; stays = stays; after = state_after }
