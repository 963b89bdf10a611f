-- What is known of the gates that an attempt has read.
use Rattle.std.specs.Prelude.{◌≡◌, ℕ, List, Contains}
use Rattle.tx_model.specs.declared.word.Word.{Word}
use Rattle.tx_model.specs.Words.{value_of}
use Rattle.ring_state.specs.declared.gates.GateReads.{GateReads}

-- at each gate it has the same first value as among all reads
abbrev pub KnowGates : GateReads → List Word → Type 0
KnowGates g reads = (gate : ℕ) → Contains g.gates.items gate → value_of g.reads.items gate ≡ value_of reads gate
