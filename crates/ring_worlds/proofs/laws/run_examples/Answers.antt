use Rattle.std.proofs.Common.{[], replicate}
use Rattle.ring_worlds.specs.Examples.{four, middle_world}
use Rattle.ring_worlds.proofs.worlds.RunExample.{may_open, run}
use Rattle.ring_worlds.proofs.laws.run_examples.Goals as goal

pub returns-clause-opening : goal.returns-clause-opening
returns-clause-opening c = c.opening_keeps.ensures four [] (replicate 64 0) 2 may_open

pub returns-clause-run : goal.returns-clause-run
returns-clause-run c = run

pub returns-clause-middle : goal.returns-clause-middle
returns-clause-middle c = c.runs_keep.ensures.reached four [] (replicate 64 0) 2 middle_world may_open run
