-- The counts stand there, and so many others.
use Rattle.std.proofs.Common.{◌≡◌, ◌+◌, vec_len}
use Rattle.ring_stress.specs.declared.sense.TheConstants.{CALLERS}
use Rattle.ring_stress.proofs.round.opening_of.Given as goal

abbrev pub invariant-loop-word : goal.invariant-loop-word
invariant-loop-word l = vec_len l.words ≡ CALLERS + l._word
