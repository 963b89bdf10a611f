-- The lengths so far are those of the first lists.
use Rattle.std.proofs.Common.{◌≡◌, ◌++◌, map, take, length}
use Rattle.tx_heap.proofs.memory.push_needs.Given as goal

abbrev pub invariant-loop-message : goal.invariant-loop-message
invariant-loop-message l = l.words.items ≡ l.fn.words.items ++ map length (take l.message l.lists)
