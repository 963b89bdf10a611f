-- None of the words so far has the address.
use Rattle.std.proofs.Common.{ℕ, ◌≢◌, ◌<◌}
use Rattle.tx_model.specs.Words.{word_at}
use Rattle.ring_state.proofs.gates.first_value.Given as goal

abbrev pub invariant-loop-word : goal.invariant-loop-word
invariant-loop-word l = (k : ℕ) → k < l.word-index → (word_at l.words k).addr ≢ l.addr
