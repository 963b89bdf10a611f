use Rattle.ring_runs.proofs.Running.{schedules_run}
use Rattle.ring_runs.proofs.laws.schedules_run.Goals as goal

pub returns : goal.returns
returns c = schedules_run
