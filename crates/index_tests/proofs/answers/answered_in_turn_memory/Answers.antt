-- The memory that was handed in comes back.
use Rattle.index_tests.proofs.answers.answered_in_turn_memory.Goals as goal

pub close-words-requires-clause-of : goal.close-words-requires-clause-of
close-words-requires-clause-of g c = rw c.answered-mem.ensures.mem c.answered-mem.ensures.of
