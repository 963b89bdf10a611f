use Rattle.ring_script.proofs.Opening.{scripts_open}
use Rattle.ring_script.proofs.laws.scripts_open.Goals as goal

pub returns : goal.returns
returns c = scripts_open
