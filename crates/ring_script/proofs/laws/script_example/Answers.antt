use Rattle.ring_script.proofs.Small.{script_example}
use Rattle.ring_script.proofs.laws.script_example.Goals as goal

pub returns : goal.returns
returns c = script_example
