use Rattle.std.proofs.Common.{◌≤◌}
use Rattle.bench_writes.specs.Ready.{IsRunning}
use Rattle.bench_writes.proofs.attempt.attempt.Given as goal

abbrev pub invariant-loop-number : goal.invariant-loop-number
invariant-loop-number l = IsRunning l.local

abbrev pub invariant-loop-number-2 : goal.invariant-loop-number-2
invariant-loop-number-2 l = l.found ≤ l.number
