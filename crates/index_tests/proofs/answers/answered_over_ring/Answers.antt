-- The memory that was handed in comes back, and its index is one still.
use Rattle.mail_index.proofs.lemmas.Still.{still_indexed}
use Rattle.index_tests.proofs.answers.answered_over_ring.Goals as goal

pub close_index-closed-requires-clause-of : goal.close_index-closed-requires-clause-of
close_index-closed-requires-clause-of g c = rw c.answered-mem.ensures.mem c.answered-mem.ensures.of

pub close_index-closed-requires-clause-indexed : goal.close_index-closed-requires-clause-indexed
close_index-closed-requires-clause-indexed g c =
    rw c.answered-mem.ensures.mem
    (still_indexed _ c.in_ok-mem.ensures.indexed c.answered-mem.ensures.idle c.answered-mem.ensures.whole c.answered-mem.ensures.no_commit)
