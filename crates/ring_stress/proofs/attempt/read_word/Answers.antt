-- A read leaves what the attempt has counted.
use Rattle.ring_stress.proofs.Attempts.{counted_read}
use Rattle.ring_stress.proofs.attempt.read_word.Goals as goal

pub returns-clause-counted : goal.returns-clause-counted
returns-clause-counted g c = counted_read c.requires.counted c.in_ok-value.ensures.read
