use Rattle.bench_writes.specs.Ready.{IsReady}
use Rattle.bench_writes.proofs.attempt.repeat.Given as goal

abbrev pub invariant-loop-round : goal.invariant-loop-round
invariant-loop-round l = IsReady l.local
