use Rattle.ring_core.proofs.KeptAll.{absorbed_keeps}
use Rattle.ring_core.proofs.laws.step_keeps.Goals as goal

pub returns : goal.returns
returns c shape good caller sound word fits =
    ((absorbed_keeps shape good caller sound word fits).sound, (absorbed_keeps shape good caller sound word fits).fewer)
