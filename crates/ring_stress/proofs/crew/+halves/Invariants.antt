-- Each half has fewer callers.
use Rattle.std.proofs.Common.{length, ◌+◌, ◌*◌, max}
use Rattle.ring_stress.proofs.crew.+halves.Given as goal

abbrev pub decreases-work_in_halves-one : goal.decreases-work_in_halves-one
decreases-work_in_halves-one g l = 3 * length l.first.now + 1

abbrev pub decreases-work_in_halves-two : goal.decreases-work_in_halves-two
decreases-work_in_halves-two g l = 3 * length l.second.now + 1

abbrev pub decreases-work_in_halves : goal.decreases-work_in_halves
decreases-work_in_halves g l = 3 * max (length l.first.now) (length l.second.now) + 2

abbrev pub decreases-work_at_once : goal.decreases-work_at_once
decreases-work_at_once g l = 3 * length l.callers.now
