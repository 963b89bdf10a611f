-- What `leave_full` leaves may be committed.
use Rattle.index_tests.proofs.postings.left.Goals as goal

pub commit-requires-clause-may : goal.commit-requires-clause-may
commit-requires-clause-may g c = c.in-Ok.ensures.left.ready.may
