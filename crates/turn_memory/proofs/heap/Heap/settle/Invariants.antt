-- So many of the writes are in the words.
use Rattle.std.proofs.Common.{◌≡◌, take}
use Rattle.tx_model.specs.Memory.{after}
use Rattle.turn_memory.proofs.heap.Heap.settle.Given as goal

abbrev pub invariant-loop-at : goal.invariant-loop-at
invariant-loop-at l = record {
  words : l.self-inside.words.items ≡ after l.initial.self-inside.words.items (take l.at l.initial.self-inside.writes.value);
  writes : l.self-inside.writes.value ≡ l.initial.self-inside.writes.value;
  commits : l.self-inside.commits ≡ l.initial.self-inside.commits;
}
