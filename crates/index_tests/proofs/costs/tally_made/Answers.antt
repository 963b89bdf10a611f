-- The memory that counts hands its calls on to the one that it was made with.
use Rattle.index_tests.proofs.costs.tally_made.Goals as goal

pub tally_every-tally-requires-clause-of : goal.tally_every-tally-requires-clause-of
tally_every-tally-requires-clause-of g c κs within = rw c.new-counting.ensures c.in_ok-mem.ensures.of

pub close-words-requires-clause-of : goal.close-words-requires-clause-of
close-words-requires-clause-of g c = rw c.into_inner.ensures c.tally_every-tally.ensures.of
