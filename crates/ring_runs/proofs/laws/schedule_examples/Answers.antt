use Rattle.ring_runs.proofs.Done.{done_example}
use Rattle.ring_runs.proofs.laws.schedule_examples.Goals as goal

pub returns : goal.returns
returns c = done_example
