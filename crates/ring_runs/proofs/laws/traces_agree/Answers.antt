use Rattle.ring_runs.proofs.Agreeing.{traces_agree}
use Rattle.ring_runs.proofs.laws.traces_agree.Goals as goal

pub returns : goal.returns
returns c = traces_agree c.next_step.ensures.unique
